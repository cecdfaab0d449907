pub mod Free
pub mod Tabled
pub mod Rooms
pub mod Settling
pub mod Facts
