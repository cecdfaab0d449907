-- What a printer and its sink have of a text.
use Rattle.std.specs.Prelude.{◌≡◌, ℕ, ◌≤◌, Bool, true, false, List, ◌++◌, Option, Result}
use Rattle.std.specs.Io.KnownBytes.{Appends}
use Rattle.span_io.specs.Causes.{Rose, AppendsPrefix, Writes}
use Rattle.run_print.specs.declared.printer.Printer.{Printer}

-- the front of the text was written, the rest is gathered, and the count of faults stayed
pub record Gathers (old now : Option (List ℕ)) (before count : ℕ) (gathered text : List ℕ) : Type 0 where
  pub front : List ℕ
  pub splits : front ++ gathered ≡ text
  pub written : Appends old now front
  pub same : count ≡ before

-- a prefix of the text was written, and the count of faults rose
pub record Fails (old now : Option (List ℕ)) (before count : ℕ) (text : List ℕ) : Type 0 where
  pub prefix : AppendsPrefix old now text
  pub rose : Rose before count
  pub later : before ≤ count

abbrev pub PrintedIf : Bool → Option (List ℕ) → Option (List ℕ) → ℕ → ℕ → List ℕ → List ℕ → Type 0
PrintedIf false old now before count gathered text = Gathers old now before count gathered text
PrintedIf true old now before count gathered text = Fails old now before count text

-- since the sink had `old` written and `before` faults, the text was printed
abbrev pub Printed : {room : ℕ} → Option (List ℕ) → ℕ → List ℕ → Printer room → Option (List ℕ) → ℕ → Type 0
Printed old before text printer now count = PrintedIf printer.failed old now before count printer.gathered text

-- Whatever was printed before, the text is printed after it: from a printer and a sink to what they are then. What was written to a sink,
-- and how often it failed, is as its kind of sinks tells it.
pub record Prints {S : Type 0} {room : ℕ} (written : S → Option (List ℕ)) (faults : S → ℕ) (p : Printer room) (s : S) (p' : Printer room) (s' : S) (text : List ℕ) : Type 0 where
  pub goes_on : (old : Option (List ℕ)) (before : ℕ) (done : List ℕ) → Printed old before done p (written s) (faults s) → Printed old before (done ++ text) p' (written s') (faults s')

-- all that was printed is written, and the count of faults stayed; or a prefix of it, and the count rose
abbrev pub Finishes : {S T E : Type 0} {room : ℕ} → (S → Option (List ℕ)) → (S → ℕ) → Printer room → S → S → Result T E → Type 0
Finishes written faults p s s' result =
    (old : Option (List ℕ)) (before : ℕ) (done : List ℕ) → Printed old before done p (written s) (faults s) → Writes old (written s') before (faults s') done result

-- the text was written to a sink, and its count of faults stayed; or a prefix of it, and the count rose
abbrev pub WritesText : {S T E : Type 0} → (S → Option (List ℕ)) → (S → ℕ) → S → S → List ℕ → Result T E → Type 0
WritesText written faults s s' text result = Writes (written s) (written s') (faults s) (faults s') text result
