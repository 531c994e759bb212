pub mod BlockLemmas
pub mod CallLemmas
