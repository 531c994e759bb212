pub mod CreateLemmas
pub mod ImageLemmas
pub mod InstanceLemmas
pub mod OpenLemmas
pub mod RunLemmas
pub mod SlotLemmas
pub mod StepLemmas
