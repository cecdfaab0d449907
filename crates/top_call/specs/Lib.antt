pub mod Words
pub mod Run
pub mod Alone
pub mod Answers
pub mod Laws
