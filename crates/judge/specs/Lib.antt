pub mod Words
pub mod Rows
pub mod Writing
pub mod Session
pub mod Options
pub mod Laws
pub mod Answers
