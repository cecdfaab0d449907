-- The law of an item that all nodes hear as it is passed on.
use Rattle.std.specs.Prelude.{ℕ, ◌≡◌, ◌≢◌, Bool, List, [], ◌∷◌, Option}
use Rattle.node_grid.specs.Count.{Distinct}
use Rattle.omh_paths.specs.declared.wrapped.Wrapped.{Wrapped}
use Rattle.omh.specs.Omh.{settled}
use Rattle.settled_paths.specs.Passing.{passing_world}
use Rattle.counted_relays.specs.Counted.{IsUntouched, counted}

-- Untouched law: a node settles such an item as its commander says it where the node is a Full member or there are as many Full
-- members beside the commander as rounds, and else the error
abbrev pub UntouchedLaw : {V : Type 0} → (V → V → Bool) → Type 0
UntouchedLaw {V} eq =
    (rounds : ℕ) (members full : List ℕ) (own : Wrapped V) (says : ℕ → List ℕ → Option (Wrapped V)) → Distinct members → IsUntouched rounds says
    → (c i : ℕ) → c ≢ i → settled eq (passing_world rounds members full own says) i (c ∷ []) ≡ counted rounds members full own c i
