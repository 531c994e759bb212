pub mod Check
pub mod Register
pub mod Telegram
pub mod Line
pub mod Cutting
