pub mod Sharing
pub mod Places
pub use Rattle.agreed_state.specs.Agreed
