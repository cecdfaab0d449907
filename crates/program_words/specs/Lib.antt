pub mod Status
pub mod Facts
