pub mod Classes
pub mod ClassView
pub mod Codes
pub mod Groups
pub mod Results
pub mod Rows
pub mod Services
pub mod Units
