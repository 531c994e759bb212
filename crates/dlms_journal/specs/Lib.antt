pub mod Page
pub mod Reading
pub mod Record
