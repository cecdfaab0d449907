pub mod Finding
pub mod Correcting
pub mod Ending
