pub mod FilingLemmas
pub mod DiskLemmas
pub mod NameLemmas
