pub use Rattle.scenario_versions.specs.Versions
pub mod Members
