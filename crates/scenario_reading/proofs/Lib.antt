pub mod Keys
pub mod Pieces
pub mod Passed
mod Later
