pub mod Attributes
pub mod Carried
pub mod ClockScripts
pub mod Clocks
pub mod Inquiries
pub mod MeterJobs
pub mod Questions
