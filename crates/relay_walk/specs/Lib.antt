pub mod Laid
pub mod LaidLaws
pub mod Walking
pub mod WalkLaws
