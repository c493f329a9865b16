pub mod Spots
pub mod Store
pub mod Rises
