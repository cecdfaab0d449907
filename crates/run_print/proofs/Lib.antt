pub mod Joining
pub mod Lists
pub mod Sending
pub mod Ranges
pub mod Alike
pub mod Zeros
pub mod Digits
pub mod Runs
