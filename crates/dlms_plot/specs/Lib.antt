pub mod Curve
pub mod Power
pub mod Quantity
pub mod Rows
pub mod Scale
pub mod Series
pub mod Steps
