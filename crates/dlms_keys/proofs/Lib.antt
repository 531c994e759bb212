pub mod Lawful
pub mod Sizes
pub mod Says
