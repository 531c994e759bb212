mod ClockLemmas
mod OwnRun
