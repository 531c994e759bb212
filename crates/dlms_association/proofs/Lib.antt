mod Heads
pub mod Taken
pub mod SaidLemmas
pub mod Running
