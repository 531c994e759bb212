mod AskLemmas
mod ClockLemmas
mod MeterJobLemmas
