pub mod Outcomes
pub mod Heads
pub mod Whole
pub mod WholeLaws
pub use Rattle.shared_states.specs.Sharing
pub use Rattle.cluster_periods.specs.Record
