pub mod ClockLemmas
pub mod RiserLemmas
pub mod PollingLemmas
pub mod PolledLemmas
pub mod SecretLemmas
pub mod RoutedLemmas
pub mod WayLemmas
pub mod PreparingLemmas
