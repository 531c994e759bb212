pub mod Client
pub mod Check
pub mod Frame
pub mod Stream
pub mod Index
pub mod Deframing
