pub mod Form
pub mod Body
pub mod Keyed
pub mod Security
pub mod Run
pub mod Encoding
pub mod Opening
