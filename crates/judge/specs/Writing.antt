-- What is written of rows.
use Rattle.std.specs.Prelude.{◌≡◌, ℕ, List, Result, Ok, Err}
use Rattle.input_lines.specs.Devices.{SinkView, WritesAll, WritesFront}
use Rattle.run_print.specs.declared.WriteFault.{WriteFault as Fault}
use Rattle.judge.specs.declared.bench.RowError.{RowError}
use Rattle.judge.specs.declared.bench.RowError.TheVariants.{NoMemory, WriteFault}

-- what a call comes to that wrote rows
abbrev pub written : Result (Unit {0}) Fault → Result (Unit {0}) RowError
written (Ok u) = Ok u
written (Err e) = Err WriteFault

-- such rows were written, or why not; want of memory comes before anything is written
abbrev pub WritesRows : SinkView → SinkView → (List ℕ → Type 0) → Result (Unit {0}) RowError → Type 0
WritesRows old new AreSuch (Ok u) = (text : List ℕ) × AreSuch text × WritesAll old new text
WritesRows old new AreSuch (Err WriteFault) = (text : List ℕ) × AreSuch text × WritesFront old new text
WritesRows old new AreSuch (Err NoMemory) = new ≡ old
