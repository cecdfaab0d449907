-- The law of an item that is passed on.
use Rattle.std.specs.Prelude.{ℕ, ◌≡◌, ◌≢◌, ◌⊎◌, Bool, true, false, List, [], ◌∷◌, ◌++◌, Option}
use Rattle.node_grid.specs.NodeSet.{has_id}
use Rattle.omh_paths.specs.declared.wrapped.Wrapped.{Wrapped}
use Rattle.omh_paths.specs.Paths.{IsPath}
use Rattle.omh.specs.Omh.{World, ear, own_term, settled}
use Rattle.settled_paths.specs.Passing.{or_passed, passing_world}

-- in a world, each node that is awake hears the item of c so: what its commander says, and of each relay what the relay puts into
-- its own majority, but for what is said in place of that
pub record IsPassedOn {V : Type 0} (w : World V) (is_awake : ℕ → Bool) (c : ℕ) (full : List ℕ) (own : Wrapped V) (says : ℕ → List ℕ → Option (Wrapped V)) : Type 0 where
  pub full_are : (q : ℕ) → (has_id w.members q ≡ true) ⊎ (is_awake q ≡ true) → w.is_full q ≡ has_id full q
  pub awake : (q : ℕ) → has_id w.members q ≡ true → w.is_full q ≡ true → is_awake q ≡ true
  pub told : (i : ℕ) → is_awake i ≡ true → c ≢ i → w.heard i (c ∷ []) ≡ or_passed (says i (c ∷ [])) own
  pub relays : (back : List ℕ) (q i : ℕ) → IsPath w.members w.rounds (c ∷ (back ++ q ∷ [])) → is_awake i ≡ true → has_id (c ∷ (back ++ q ∷ [])) i ≡ false
      → w.heard i (c ∷ (back ++ q ∷ [])) ≡ or_passed (says i (c ∷ (back ++ q ∷ []))) (own_term (ear w q) (c ∷ back))

-- Passing law: what such a node settles for it follows from these alone
abbrev pub PassingLaw : {V : Type 0} → (V → V → Bool) → Type 0
PassingLaw {V} eq =
    (w : World V) (is_awake : ℕ → Bool) (c : ℕ) (full : List ℕ) (own : Wrapped V) (says : ℕ → List ℕ → Option (Wrapped V))
    → IsPassedOn w is_awake c full own says → has_id w.members c ≡ true → (i : ℕ) → is_awake i ≡ true → c ≢ i
    → settled eq w i (c ∷ []) ≡ settled eq (passing_world w.rounds w.members full own says) i (c ∷ [])
