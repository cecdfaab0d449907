pub mod Collect
pub mod Meaning
pub mod Trees
pub mod Unread
