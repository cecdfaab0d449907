pub mod Arriving
pub mod Handing
pub mod Nodes
pub mod AllSlots
pub mod Listed
pub mod Claims
