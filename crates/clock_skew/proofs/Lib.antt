pub mod Bounding
pub mod Fitting
pub mod Places
pub mod Skewing
pub mod Sums
pub mod Told
pub mod Written
