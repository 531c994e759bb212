mod JobLemmas
mod DoneLemmas
