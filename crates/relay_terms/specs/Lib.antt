pub mod Terms
pub mod Tallies
pub mod TallyLaws
