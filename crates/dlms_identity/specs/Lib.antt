pub mod Text
pub mod Showing
