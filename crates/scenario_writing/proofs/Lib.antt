pub mod Channels
pub mod Grown
pub mod Members
pub mod Policies
pub mod Wholes
