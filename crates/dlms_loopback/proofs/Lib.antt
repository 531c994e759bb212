pub mod RoundLemmas
pub mod StopLemmas
