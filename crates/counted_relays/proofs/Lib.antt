pub mod Terms
pub mod Reaching
pub mod Counts
