pub mod Notification
pub mod Joined
pub mod Line
pub mod Cutting
pub mod Sender
pub mod Receiving
pub mod Unsealing
