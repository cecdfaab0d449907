pub mod Counted
pub mod Laws
pub use Rattle.node_grid.specs.NodeSet
pub use Rattle.node_grid.specs.Count
pub use Rattle.omh_paths.specs.Wrapped
pub use Rattle.omh.specs.Omh
pub use Rattle.settled_paths.specs.Passing
