pub mod Types
pub mod Value
pub mod Reading
pub mod Spelling
pub mod View
pub mod Laws
