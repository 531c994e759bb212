pub mod TalkingLemmas
