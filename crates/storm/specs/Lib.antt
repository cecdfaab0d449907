pub mod Storm
pub mod Parts
pub mod Adding
pub mod Laws
