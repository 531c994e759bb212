pub mod Block
pub mod BlockView
pub mod Going
pub mod Coming
pub mod Joining
pub mod Calls
