pub mod Message
pub mod Datagram
pub mod Stream
pub mod Reading
