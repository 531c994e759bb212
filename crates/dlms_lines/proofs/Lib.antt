pub mod SharedLemmas
