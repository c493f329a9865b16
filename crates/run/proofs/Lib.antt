pub mod States
pub mod Standings
pub mod Firings
pub mod Stepping
pub mod Counted
