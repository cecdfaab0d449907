pub mod Periods
pub mod Texts
pub mod Rooms
