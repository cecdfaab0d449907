pub mod Law
pub use Rattle.protocol.specs.Run
pub use Rattle.odd_relays.specs.Chains
