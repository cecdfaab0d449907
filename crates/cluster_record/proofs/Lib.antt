pub mod Taking
pub mod Planned
pub mod Members
pub mod Showing
pub mod Clocking
