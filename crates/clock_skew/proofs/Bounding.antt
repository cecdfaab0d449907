-- A correction lies between any bounds of all readings and of 0.
use Rattle.std.proofs.Common.{◌≡◌, ℕ, Bool, true, false, List, [], ◌∷◌, length, Option, None, Some, ℤ, pos, ◌≤ℤ◌, refl, sym, subst, inl, inr}
use Rattle.std.specs.Prelude.{if◌then◌else◌, unwrap_or}
use Rattle.std.specs.List.{filter_map, All}
use Rattle.std.proofs.lemmas.Bool.{cases_lt}
use Rattle.std.proofs.lemmas.List.{get_or_past}
use Rattle.std.proofs.lemmas.List.Elements.{All-get_or}
use Rattle.node_grid.specs.NodeSet.{has_id}
use Rattle.mme_vote.specs.Vote.{vote_of, AllFromTo, WithinLaw}
use Rattle.clock_skew.specs.Clock.{number_at}
use Rattle.clock_skew.specs.Correction.{is_own, read_of, BoundLaw}
use Rattle.mme_vote.specs.MemberValues.{All-values}

module _ (P : ℤ → Type 0) (zero_is : P (pos 0)) where
  number_is : (readings : List ℤ) (k : ℕ) → All P readings → P (number_at readings k)
  number_is readings k all = elim (cases_lt k (length readings)) [
    | inl low ↦ All-get_or P readings k (pos 0) low all
    | inr high ↦ subst P (sym (get_or_past readings k (pos 0) high)) zero_is
  ]

  one_is : (own good : Bool) (x v : ℤ) → P x → (if own then Some (pos 0) else (if good then Some x else None)) ≡ Some v → P v
  one_is true good x v h e = let z : pos 0 ≡ v = cc in subst P z zero_is
  one_is false true x v h e = let z : x ≡ v = cc in subst P z h
  one_is false false x v h e = cc

  pub all_are : (members good : List ℕ) (own : Option ℕ) (readings : List ℤ) → All P readings → All P (filter_map (read_of good own readings) members)
  all_are members good own readings all =
      All-values P (read_of good own readings) members (λ k v on e. one_is (is_own own k) (has_id good k) (number_at readings k) v (number_is readings k all) e)

voted_within : WithinLaw → (ys : List ℤ) (m : ℕ) (low high : ℤ) → low ≤ℤ pos 0 → pos 0 ≤ℤ high → AllFromTo low high ys → (low ≤ℤ unwrap_or (vote_of ys m) (pos 0)) × (unwrap_or (vote_of ys m) (pos 0) ≤ℤ high)
voted_within law [] m low high l h all = (l, h)
voted_within law (y ∷ ys) m low high l h all = law (y ∷ ys) m low high _ all refl

pub bound_law : WithinLaw → BoundLaw
bound_law law members good own readings m low high l h all =
    voted_within law (filter_map (read_of good own readings) members) m low high l h (all_are (λ x. (low ≤ℤ x) × (x ≤ℤ high)) (l, h) members good own readings all)
