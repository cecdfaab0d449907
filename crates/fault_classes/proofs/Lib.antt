mod Rows
pub mod Marking
pub mod Touching
pub mod Placing
pub mod Ranges
pub mod Entries
pub mod Slots
pub mod Places
pub mod Restarting
pub mod Sending
pub mod Refusals
pub mod Loops
pub mod Classing
pub mod Sets
pub mod Facts
pub mod CleanClass
