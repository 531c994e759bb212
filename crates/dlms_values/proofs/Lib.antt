pub mod Scan
pub mod Whole
pub mod Takes
pub mod Next
pub mod WholeLaws
