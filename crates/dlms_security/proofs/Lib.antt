pub mod BodyLemmas
pub mod FormLemmas
pub mod MessageLemmas
pub mod RoundLemmas
pub mod AcceptedLemmas
pub mod RunLemmas
pub mod EncodingLemmas
pub mod OpeningLemmas
