pub mod Totals
pub mod Summing
pub mod Claimed
