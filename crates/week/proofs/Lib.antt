pub mod Answered
pub mod Budgets
pub mod Decisive
pub mod Fronts
pub mod Places
