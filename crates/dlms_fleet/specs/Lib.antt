pub mod Acts
pub mod Alone
pub mod Example
pub mod Inputs
pub mod Numbers
pub mod Runs
pub mod RunningJob
pub mod Seats
