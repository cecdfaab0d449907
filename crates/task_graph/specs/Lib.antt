pub mod Graph
pub mod Refusal
pub mod Reach
pub mod GraphLaws
pub mod Facts
