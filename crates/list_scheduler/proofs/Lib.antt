pub mod Members
pub mod Found
pub mod Moving
pub mod Leaving
pub mod Completing
pub mod Picking
pub mod Whole
