pub mod Faults
pub mod Body
pub mod Room
pub mod Changes
