pub mod Products
pub mod UsualLemmas
