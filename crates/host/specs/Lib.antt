pub mod Causes
pub mod Numbers
pub mod Counts
pub mod Serials
pub mod Workings
