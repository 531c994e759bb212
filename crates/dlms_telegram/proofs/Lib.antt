pub mod FeedLemmas
pub mod CutLemmas
pub mod PartLemmas
pub mod CheckLemmas
pub mod DivisionLemmas
pub mod SplitLemmas
