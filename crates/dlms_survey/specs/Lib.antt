pub mod Image
pub mod Judging
pub mod Own
pub mod Pages
pub mod Places
pub mod Survey
