pub mod CutLemmas
pub mod MessageLemmas
pub mod TelegramLemmas
