pub mod Rows
pub mod Viewing
pub mod Keeping
