pub mod Tally
pub mod Account
pub mod Derivation
