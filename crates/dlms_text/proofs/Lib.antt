pub mod ValueLemmas
pub mod ServerLemmas
pub mod Growing
pub mod EntryLemmas
