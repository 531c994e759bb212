pub mod PollJobs
pub mod Polled
