pub mod Policy
pub mod Step
pub mod StepLaws
