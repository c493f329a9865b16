pub mod Clearing
pub mod Counting
pub mod Runs
