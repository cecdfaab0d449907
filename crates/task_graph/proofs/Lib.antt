pub mod Ascending
pub mod Ranges
pub mod Closure
pub mod Refusals
