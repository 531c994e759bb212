pub mod Again
pub mod Found
pub mod Lists
pub mod Pages
