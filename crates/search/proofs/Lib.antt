pub mod Lists
pub mod Weights
pub mod Leftovers
pub mod Steps
pub mod Walked
pub mod Sought
