pub mod Copies
pub mod Schedule
pub mod OneNode
pub use Rattle.task_graph.specs.Graph
pub mod CopyLaws
pub mod ScheduleLaws
pub mod ByTask
pub mod Facts
