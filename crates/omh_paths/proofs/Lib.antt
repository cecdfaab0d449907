pub mod Candidates
pub mod Ranks
pub mod Ordering
