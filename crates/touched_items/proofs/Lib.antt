pub mod Overlays
pub mod Cells
pub mod Patches
pub mod Coming
