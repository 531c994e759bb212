pub mod Fault
pub mod Verdict
pub mod Writing
pub mod Reading
pub mod Spelling
pub mod Services
pub mod Faults
