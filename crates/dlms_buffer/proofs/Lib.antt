pub mod Stepping
pub mod Walking
pub mod Appending
pub mod Packing
