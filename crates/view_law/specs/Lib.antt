pub mod Laws
pub mod Made
pub use Rattle.error_reports.specs.Notes
pub use Rattle.protocol.specs.View
pub use Rattle.protocol.specs.Run
pub use Rattle.protocol.specs.Configured
