-- What each node was told of an item and what odd members pass on of it is all that counts.
use Rattle.std.specs.Prelude.{ℕ, ◌≡◌, ◌≢◌, Bool, true, false, List, [], ◌∷◌, ◌++◌, slice_index_or}
use Rattle.node_grid.specs.NodeSet.{has_id}
use Rattle.node_grid.specs.Count.{Distinct}
use Rattle.omh_paths.specs.declared.wrapped.Wrapped.TheVariants.{Fault}
use Rattle.omh_paths.specs.Paths.{IsPath}
use Rattle.omh.specs.Omh.{World, ear, settled}
use Rattle.equivocation.specs.Conviction.{convicts}
use Rattle.odd_relays.specs.Chains.{IsPassedOn, AreOdd}
use Rattle.odd_relays.specs.Telling.{Telling, telling_world, settled_item, convicts_commander, HasFewOdd}

-- in a world, this is what the nodes that are awake hear of the commander itself, and for paths of odd members behind it
pub record IsTellingOf {V : Type 0} (w : World V) (is_awake : ℕ → Bool) (t : Telling V) : Type 0 where
  pub rounds_are : w.rounds ≡ t.rounds
  pub members_are : w.members ≡ t.members
  pub full_are : (q : ℕ) → has_id t.members q ≡ true → w.is_full q ≡ has_id t.full q
  pub told_are : (i : ℕ) → is_awake i ≡ true → t.commander ≢ i → w.heard i (t.commander ∷ []) ≡ slice_index_or t.told i (Fault 0)
  pub says_are : (front : List ℕ) (q i : ℕ) → IsPath t.members t.rounds (t.commander ∷ (front ++ q ∷ [])) → AreOdd t.odd (front ++ q ∷ [])
      → is_awake i ≡ true → has_id (t.commander ∷ (front ++ q ∷ [])) i ≡ false
      → w.heard i (t.commander ∷ (front ++ q ∷ [])) ≡ t.says i (t.commander ∷ (front ++ q ∷ []))

-- Item law: where few members are odd, what a node that is awake settles of it in that world follows from this alone
abbrev pub ItemLaw : {V : Type 0} → (V → V → Bool) → Type 0
ItemLaw {V} eq =
    (w : World V) (is_awake : ℕ → Bool) (t : Telling V) → IsPassedOn w t.commander t.odd is_awake → IsTellingOf w is_awake t → HasFewOdd t
    → has_id t.members t.commander ≡ true → (i : ℕ) → is_awake i ≡ true → t.commander ≢ i
    → settled eq w i (t.commander ∷ []) ≡ settled_item eq t i

-- and so does whether it convicts the commander, however many are odd
abbrev pub ItemConvictsLaw : {V : Type 0} → (V → V → Bool) → Type 0
ItemConvictsLaw {V} eq =
    (w : World V) (is_awake : ℕ → Bool) (t : Telling V) → IsPassedOn w t.commander t.odd is_awake → IsTellingOf w is_awake t
    → has_id t.members t.commander ≡ true → (i : ℕ) → is_awake i ≡ true → t.commander ≢ i
    → convicts eq (ear w i) t.commander ≡ convicts_commander eq t i

-- The premises can be met: whatever is told and odd members pass on, in the world of it all others pass on what they should
abbrev pub EachTellingIsPassedOn : Type 0 → Type 0
EachTellingIsPassedOn V =
    (t : Telling V) (is_awake : ℕ → Bool) → Distinct t.members
    → ((q : ℕ) → has_id t.members q ≡ true → has_id t.full q ≡ true → is_awake q ≡ true)
    → IsPassedOn (telling_world t) t.commander t.odd is_awake
