pub mod Alone
pub mod Ends
mod Example
mod Frees
pub mod Numbers
mod Serving
