pub mod Grouping
pub mod Shared
pub use Rattle.error_reports.specs.Notes
pub use Rattle.protocol.specs.View
pub use Rattle.shared_states.specs.Sharing
pub use Rattle.view_law.specs.Made
