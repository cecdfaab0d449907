pub mod Summary
pub mod Summing
pub mod Laws
