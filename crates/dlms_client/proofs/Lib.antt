pub mod HandedUp
pub mod Running
