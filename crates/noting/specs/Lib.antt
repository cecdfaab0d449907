pub mod Findings
pub mod FoundLaws
