pub mod Charge
pub mod Notes
pub mod NoteLaws
pub use Rattle.node_grid.specs.MaskLaws
