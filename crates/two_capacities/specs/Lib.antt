pub mod Wider
pub mod Laws
