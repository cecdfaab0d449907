-- Channels of each kind and version.
use Rattle.std.proofs.Common.{◌≡◌, ◌<◌, ℕ, zero, suc, ℤ, false, List, [], ◌∷◌, length, map, get_or, Some, arith}
use Rattle.std.specs.Prelude.{codes, IfOk, Result, Ok, Err}
use Rattle.std.specs.List.{AllByRecursion}
use Rattle.serde_json.specs.Data.{Data}
use Rattle.serde_json.specs.Find.{as_str}
use Rattle.json_parts.specs.Reading.{required, object_of}
use Rattle.scenario.specs.Parts.{ChannelParts}
use Rattle.scenario_reading.specs.Keys.{copy_names, copy_fields, channel_at}
use Rattle.scenario_versions.specs.Versions.{is_first}

-- a value that says so is a channel of copies, but in version 1
pub copy_at : (version : ℤ) (d : Data) (part : ChannelParts) → is_first version ≡ false → required (codes "kind") as_str d ≡ Some (codes "copy")
    → object_of copy_names copy_fields d ≡ Some part → channel_at version d ≡ Some part
copy_at version d part later kind fields = rw (kind, later) fields

-- what holds of all holds of each
pub of_each : {A X : Type 0} (P : X → Type 0) (seen : A → X) (items : List A) (k : ℕ) (d : A) → k < length items → AllByRecursion P (map seen items) → P (seen (get_or items k d))
of_each P seen [] k d low all = absurd (omega arith)
of_each P seen (x ∷ xs) zero d low all = all.0
of_each P seen (x ∷ xs) (suc k) d low all = of_each P seen xs k d (omega arith) all.1

-- what follows of two clauses of a call
pub both : {A E : Type 0} {P Q R : A → Type 0} (result : Result A E) → ((a : A) → P a → Q a → R a) → IfOk result P → IfOk result Q → IfOk result R
both (Ok a) follows p q = follows a p q
both (Err e) follows p q = tt
