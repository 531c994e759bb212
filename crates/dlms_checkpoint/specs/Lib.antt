pub mod Bodies
pub mod Checkpoint
pub mod Layouts
pub mod Reading
