mod HandleValues
mod Values
pub mod StationLemmas
