pub mod Steady
pub mod Deadline
pub mod Line
pub mod Watching
pub mod Faults
