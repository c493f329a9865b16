pub mod Blanks
pub mod Bytes
pub mod Faults
pub mod Workings
