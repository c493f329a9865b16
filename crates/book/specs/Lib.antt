pub mod Drafts
pub mod Held
pub mod Books
