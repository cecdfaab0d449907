-- Facts that several crates cite.
use Rattle.std.proofs.Common.{List, [], arith, inl, inr, pos, subst, sym, ℕ, ℤ, ◌^◌, ◌∷◌}
use Rattle.std.proofs.lemmas.Bool.{cases_Bool, cond-false, cond-true}
use Rattle.std.proofs.lemmas.Int.{ints}
use Rattle.std.proofs.lemmas.List.Elements.{All-head, All-tail}
use Rattle.std.specs.Prelude.{All}
use Rattle.clock_skew.specs.Clock.{IsLie, IsUpTo, LieView, first_told, is_told}

-- how far from 0 what is told is
pub told_near : (nodes j i p : ℕ) (ls : List LieView) → All (IsLie nodes) ls → IsUpTo (pos (2 ^ 40)) (first_told j i p ls)
told_near nodes j i p [] all = (omega (arith, ints), omega (arith, ints))
told_near nodes j i p (l ∷ ls) all = elim (cases_Bool (is_told j i p l)) [
  | inl on ↦ subst (λ (z : ℤ). IsUpTo (pos (2 ^ 40)) z) (sym (cond-true (is_told j i p l) l.by (first_told j i p ls) on)) (All-head (IsLie nodes) l ls all).by
  | inr off ↦ subst (λ (z : ℤ). IsUpTo (pos (2 ^ 40)) z) (sym (cond-false (is_told j i p l) l.by (first_told j i p ls) off)) (told_near nodes j i p ls (All-tail (IsLie nodes) l ls all))
]
