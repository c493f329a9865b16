pub mod Cases
pub mod OpenRules
pub mod Records
pub mod Soundness
pub mod States
