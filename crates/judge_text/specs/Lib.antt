pub mod Cells
pub mod Rows
pub use Rattle.run_print.specs.Printing
pub use Rattle.run_text.specs.Text
