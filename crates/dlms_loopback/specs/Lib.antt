pub mod Rounds
pub mod Stops
