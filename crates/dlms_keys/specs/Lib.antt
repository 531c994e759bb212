pub mod Names
pub mod Settings
pub mod Place
pub mod Station
pub mod Keyring
