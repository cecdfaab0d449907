pub mod Bodies
pub mod Bounds
pub mod Words
pub mod Headers
