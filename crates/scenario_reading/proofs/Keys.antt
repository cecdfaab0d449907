use Rattle.std.proofs.Common.{◌≡◌, ℕ, ℤ, pos, true, false, List, [], ◌∷◌, ◌++◌, refl}
use Rattle.std.specs.Prelude.{codes}
use Rattle.std.specs.Ordering.{int_eq}
use Rattle.scenario_reading.specs.Keys.{scenario_names}

-- the keys that each version knows
abbrev pub old_names : List (List ℕ)
old_names =
    codes "version" ∷ codes "nodes" ∷ codes "m" ∷ codes "periods" ∷ codes "policy" ∷ codes "frame" ∷ codes "order"
    ∷ codes "channels" ∷ codes "tasks" ∷ codes "faults" ∷ codes "restarts" ∷ []

abbrev pub all_names : List (List ℕ)
all_names = old_names ++ codes "clock" ∷ []

pub newer_names : (version : ℤ) → int_eq version (pos 1) ≡ false → scenario_names version ≡ all_names
unfolding scenario_names
newer_names version h = rw h refl

pub older_names : (version : ℤ) → int_eq version (pos 1) ≡ true → scenario_names version ≡ old_names
unfolding scenario_names
older_names version h = rw h refl
