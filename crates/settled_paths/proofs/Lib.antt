pub mod Loops
pub mod Places
pub mod Passes
pub mod Folds
pub mod Layers
pub mod Rooms
pub mod Worlds
pub mod Untouched
