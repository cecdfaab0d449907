pub mod Lines
pub mod Reading
pub mod Buffer
pub mod Laws
pub mod Splits
pub mod FirstLine
pub mod Devices
pub mod Numbers
