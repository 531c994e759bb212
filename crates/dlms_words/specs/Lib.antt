pub mod Numbers
pub mod Addresses
pub mod Grammar
pub mod Words
