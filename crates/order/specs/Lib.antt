pub mod Bands
pub mod BandsLemmas
