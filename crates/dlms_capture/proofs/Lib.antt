mod Headers
mod Leads
mod Options
mod Steps
mod Stretches
