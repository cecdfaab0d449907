pub mod Arrived
pub use Rattle.frames.specs.Content
pub use Rattle.frames.specs.Spelling
pub use Rattle.fault_classes.specs.Change
pub use Rattle.protocol.specs.Arrival
pub use Rattle.protocol.specs.Talk
