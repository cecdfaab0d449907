pub mod Arrival
pub mod Transmission
pub use Rattle.fault_classes.specs.Change
pub use Rattle.fault_classes.specs.Line
pub use Rattle.fault_classes.specs.Plan
