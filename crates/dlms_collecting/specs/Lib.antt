pub mod Clocks
pub mod Held
pub mod List
pub mod Own
pub mod OwnRun
