pub mod Words
pub mod Input
pub mod Course
pub mod Outcome
pub mod Session
pub mod First
pub mod Laws
pub mod Answers
