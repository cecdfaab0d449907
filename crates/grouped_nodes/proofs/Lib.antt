pub mod Firsts
pub mod Completion
pub mod PartedBeliefs
pub mod GroupSteps
mod Running
mod Finishing
