pub mod Texts
pub mod Laws
pub use Rattle.scenario.specs.Rules
pub use Rattle.scenario.specs.Scenario
pub use Rattle.scenario_reading.specs.Verdict
pub use Rattle.cluster_periods.specs.Record
