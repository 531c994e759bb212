pub mod Plan
pub mod ClientValue
pub mod Calls
pub mod Run
