-- The words that the program is called with.
use Rattle.std.specs.Prelude.{◌≡◌, ℕ, ◌^◌, ◌<◌, ◌≤◌, List, [], ◌∷◌, codes, decimal, map, String, string_bytes}
use Rattle.std.specs.declared.alloc.Global.{Global}
use Rattle.top_call.specs.declared.form.Form.{Form}
use Rattle.top_call.specs.declared.form.Form.TheVariants.{Replay, Trace, Check}
use Rattle.top_call.specs.declared.form.Reading.{Reading}
use Rattle.top_call.specs.declared.form.Reading.TheVariants.{Scenario, Log}
use Rattle.top_call.specs.declared.form.Command.{Command}
use Rattle.top_call.specs.declared.form.Command.TheVariants.{Read, Storm}

-- the bytes of each word
abbrev pub texts : List (String Global) → List (List ℕ)
texts ws = map string_bytes ws

-- the words of each form
abbrev pub words_of : Form → List (List ℕ)
words_of Replay = codes "replay" ∷ []
words_of Trace = codes "replay" ∷ codes "trace" ∷ []
words_of Check = codes "check" ∷ []

-- the words call for this; numbers are in decimal, without zeros before them
abbrev pub CallsReading : List (List ℕ) → Reading → Type 0
CallsReading ws (Scenario form) = ws ≡ words_of form
CallsReading ws (Log id) = (id ≤ 15) × (ws ≡ codes "node" ∷ decimal id ∷ [])

abbrev pub Calls : List (List ℕ) → Command → Type 0
Calls ws (Read reading) = CallsReading ws reading
Calls ws (Storm seed) = (seed < 2 ^ 64) × (ws ≡ codes "storm" ∷ decimal seed ∷ [])
