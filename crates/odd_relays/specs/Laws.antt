-- The laws of odd relays, over the definitions alone.
use Rattle.std.specs.Prelude.{ℕ, ◌≡◌, ◌≢◌, ◌+◌, Bool, true, false, List, [], ◌∷◌, ◌++◌, length}
use Rattle.node_grid.specs.NodeSet.{has_id}
use Rattle.omh_paths.specs.declared.wrapped.Wrapped.{Wrapped}
use Rattle.omh_paths.specs.Paths.{IsPath}
use Rattle.omh.specs.Omh.{World, ear, settled}
use Rattle.equivocation.specs.Conviction.{convicts}
use Rattle.odd_relays.specs.Chains.{IsPassedOn, AreFew, IsToldAlike, chain_settled, AreOdd}

-- Chain law: what a node that is awake settles for another member's item, it settles from paths of odd members alone
abbrev pub ChainLaw : {V : Type 0} → (V → V → Bool) → Type 0
ChainLaw {V} eq =
    (w : World V) (c : ℕ) (odd : List ℕ) (is_awake : ℕ → Bool) → IsPassedOn w c odd is_awake → AreFew w odd
    → has_id w.members c ≡ true → (i : ℕ) → is_awake i ≡ true → c ≢ i
    → settled eq w i (c ∷ []) ≡ chain_settled eq w odd i c

-- Regular law: a relayed path whose last node isn't odd settles as it was heard
abbrev pub RegularLaw : {V : Type 0} → (V → V → Bool) → Type 0
RegularLaw {V} eq =
    (w : World V) (c : ℕ) (odd : List ℕ) (is_awake : ℕ → Bool) → IsPassedOn w c odd is_awake → AreFew w odd
    → (front : List ℕ) (last i : ℕ) → IsPath w.members w.rounds (c ∷ (front ++ last ∷ [])) → has_id odd last ≡ false
    → is_awake i ≡ true → has_id (c ∷ (front ++ last ∷ [])) i ≡ false
    → settled eq w i (c ∷ (front ++ last ∷ [])) ≡ w.heard i (c ∷ (front ++ last ∷ []))

-- Told law: what a member told all alike settles so
abbrev pub ToldLaw : {V : Type 0} → (V → V → Bool) → Type 0
ToldLaw {V} eq =
    (w : World V) (c : ℕ) (odd : List ℕ) (is_awake : ℕ → Bool) → IsPassedOn w c odd is_awake → AreFew w odd
    → has_id w.members c ≡ true → (v : Wrapped V) → IsToldAlike w is_awake c v → (i : ℕ) → is_awake i ≡ true → c ≢ i
    → settled eq w i (c ∷ []) ≡ v

-- and nobody convicts it
abbrev pub ToldSparedLaw : {V : Type 0} → (V → V → Bool) → Type 0
ToldSparedLaw {V} eq =
    (w : World V) (c : ℕ) (odd : List ℕ) (is_awake : ℕ → Bool) → IsPassedOn w c odd is_awake → AreFew w odd
    → has_id w.members c ≡ true → (v : Wrapped V) → IsToldAlike w is_awake c v → (i : ℕ) → is_awake i ≡ true → c ≢ i
    → convicts eq (ear w i) c ≡ false

-- Views law: two nodes that aren't odd settle by paths of odd members alike where they heard alike in the last round,
-- whatever they were told
abbrev pub ViewsLaw : {V : Type 0} → (V → V → Bool) → Type 0
ViewsLaw {V} eq =
    (w : World V) (odd : List ℕ) (c i j : ℕ) → has_id w.members c ≡ true → has_id odd i ≡ false → has_id odd j ≡ false
    → c ≢ i → c ≢ j
    → ((back : List ℕ) → IsPath w.members w.rounds (c ∷ back) → length (c ∷ back) ≡ w.rounds + 1 → AreOdd odd back
    → w.heard i (c ∷ back) ≡ w.heard j (c ∷ back))
    → chain_settled eq w odd i c ≡ chain_settled eq w odd j c
