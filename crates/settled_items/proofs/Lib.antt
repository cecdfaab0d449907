pub mod Clipping
pub mod Relaying
pub mod Worlds
pub mod Walking
pub mod Listening
