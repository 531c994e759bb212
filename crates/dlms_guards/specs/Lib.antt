pub mod Counters
pub mod Guards
