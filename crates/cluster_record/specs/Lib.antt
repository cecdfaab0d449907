pub mod Buffers
pub mod Shown
pub mod Clocking
pub mod Filling
