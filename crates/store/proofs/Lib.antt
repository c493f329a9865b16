pub mod Walks
pub mod Spots
