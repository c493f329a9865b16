pub mod Bodies
pub mod Paired
pub mod Rooms
