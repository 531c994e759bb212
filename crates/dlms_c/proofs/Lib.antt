mod HangingUp
mod MeterValues
mod Openings
mod Places
mod PollerValues
mod Refusals
mod Values
