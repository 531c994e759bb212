pub mod Fault
pub mod Forms
pub mod View
pub mod Spelling
pub mod Reading
pub mod Writing
pub mod Laws
