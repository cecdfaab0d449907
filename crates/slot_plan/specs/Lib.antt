pub mod Slots
pub mod SlotLaws
pub mod Ticks
pub mod Facts
