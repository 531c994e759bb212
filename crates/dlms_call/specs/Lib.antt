pub mod Carried
pub mod Talking
pub mod Asking
