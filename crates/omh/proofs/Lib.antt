pub mod Flats
pub mod Folding
pub mod Tables
pub mod Puts
