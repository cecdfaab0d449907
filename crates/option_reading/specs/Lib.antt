pub mod Keys
pub mod Verdict
