-- The laws of an item that is passed on, over the definitions alone.
use Rattle.std.specs.Prelude.{ℕ, ◌≡◌, ◌≢◌, Bool, true, false, List, ◌∷◌, [], Option, None}
use Rattle.node_grid.specs.NodeSet.{has_id}
use Rattle.node_grid.specs.Count.{Distinct}
use Rattle.omh_paths.specs.declared.wrapped.Wrapped.{Wrapped}
use Rattle.omh.specs.Omh.{World, ear, settled}
use Rattle.equivocation.specs.Conviction.{convicts}
use Rattle.settled_paths.specs.Passing.{passing_world}
use Rattle.settled_paths.specs.Laws.{IsPassedOn}
use Rattle.settled_items.specs.Relaying.{AreOddHeard, AreFewOdd}

-- Convicting law: whether a node that is awake convicts the member whose item is passed on so follows from who relays it, what its
-- commander says, and what nodes hear in place of what is passed on
abbrev pub ConvictingLaw : {V : Type 0} → (V → V → Bool) → Type 0
ConvictingLaw {V} eq =
    (w : World V) (is_awake : ℕ → Bool) (c : ℕ) (full : List ℕ) (own : Wrapped V) (says : ℕ → List ℕ → Option (Wrapped V))
    → IsPassedOn w is_awake c full own says → has_id w.members c ≡ true → (i : ℕ) → is_awake i ≡ true → c ≢ i
    → convicts eq (ear w i) c ≡ convicts eq (ear (passing_world w.rounds w.members full own says) i) c

-- in a world, the item of c is passed on so, few members' relays are odd, and no node hears otherwise what the commander itself says
pub record IsToldAsIs {V : Type 0} (w : World V) (is_awake : ℕ → Bool) (c : ℕ) (full odd : List ℕ) (own : Wrapped V) (says : ℕ → List ℕ → Option (Wrapped V)) : Type 0 where
  pub distinct : Distinct w.members
  pub member : has_id w.members c ≡ true
  pub passed_on : IsPassedOn w is_awake c full own says
  pub odd_heard : AreOddHeard w.rounds w.members c odd is_awake says
  pub few : AreFewOdd w.rounds w.members full odd
  pub as_is : (i : ℕ) → is_awake i ≡ true → c ≢ i → says i (c ∷ []) ≡ None

-- Plain law: such an item settles as its commander says it, and nobody convicts the commander
abbrev pub PlainLaw : {V : Type 0} → (V → V → Bool) → Type 0
PlainLaw {V} eq =
    (w : World V) (is_awake : ℕ → Bool) (c : ℕ) (full odd : List ℕ) (own : Wrapped V) (says : ℕ → List ℕ → Option (Wrapped V))
    → IsToldAsIs w is_awake c full odd own says → (i : ℕ) → is_awake i ≡ true → c ≢ i
    → settled eq w i (c ∷ []) ≡ own

abbrev pub PlainSparedLaw : {V : Type 0} → (V → V → Bool) → Type 0
PlainSparedLaw {V} eq =
    (w : World V) (is_awake : ℕ → Bool) (c : ℕ) (full odd : List ℕ) (own : Wrapped V) (says : ℕ → List ℕ → Option (Wrapped V))
    → IsToldAsIs w is_awake c full odd own says → (i : ℕ) → is_awake i ≡ true → c ≢ i
    → convicts eq (ear w i) c ≡ false
