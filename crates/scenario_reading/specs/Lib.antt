pub use Rattle.json_parts.specs.Meaning
pub use Rattle.json_parts.specs.Reading
pub mod Keys
pub mod Pieces
pub mod Sizes
pub mod Verdict
pub mod Laws
pub mod Facts
