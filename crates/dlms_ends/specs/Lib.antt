pub mod Faults
pub mod Moments
pub mod Serving
pub mod Inflow
pub mod Calling
pub mod BothEnds
pub mod Carried
pub mod PollEnds
