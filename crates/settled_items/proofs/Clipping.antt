-- Errors that are wrapped at most 254 times.
use Rattle.std.proofs.Common.{ℕ, suc, ◌≡◌, ◌<◌, ◌≤◌, ◌+◌, nat_lt, List, [], ◌∷◌, length, reverse, refl, sym, ap, subst, ◌∙◌, inl, inr, arith, lt-ltb, le-ltb}
use Rattle.std.specs.Prelude.{Option, None, Some, IfSome}
use Rattle.std.proofs.lemmas.Bool.{cases_Bool, cases_lt, cond-true, cond-false}
use Rattle.std.proofs.lemmas.List.{length-reverse}
use Rattle.node_grid.specs.NodeSet.{has_id}
use Rattle.omh_paths.specs.declared.wrapped.Wrapped.{Wrapped}
use Rattle.omh_paths.specs.declared.wrapped.Wrapped.TheVariants.{Plain, Fault}
use Rattle.omh_paths.specs.Wrapped.{wrapped}
use Rattle.omh.specs.Written.{IsSmall}
use Rattle.settled_paths.specs.Passing.{or_passed, passed_back, passed_from, passed}
use Rattle.settled_paths.proofs.Layers.{small_more, small_wrapped}
use Rattle.settled_items.specs.Relaying.{clipped}

fault_below : {V : Type 0} (k : ℕ) → k < 254 → clipped {V = V} (Fault k) ≡ Fault k
fault_below k l = cond-true (nat_lt k 254) (Fault k) (Fault 254) (lt-ltb k 254 l)

fault_above : {V : Type 0} (k : ℕ) → 254 ≤ k → clipped {V = V} (Fault k) ≡ Fault 254
fault_above k l = cond-false (nat_lt k 254) (Fault k) (Fault 254) (le-ltb k 254 l)

pub clipped_small : {V : Type 0} (v : Wrapped V) → IsSmall 254 v → clipped v ≡ v
clipped_small (Plain v) h = refl
clipped_small (Fault k) h = elim (cases_lt k 254) [
  | inl l ↦ fault_below k l
  | inr g ↦ let e : k ≡ 254 = omega (arith, h, g) in fault_above k g ∙ ap Fault (sym e)
]

pub small_clipped : {V : Type 0} (v : Wrapped V) → IsSmall 254 (clipped v)
small_clipped (Plain v) = tt
small_clipped {V = V} (Fault k) = elim (cases_lt k 254) [
  | inl l ↦ let P : Wrapped V → Type 0 = IsSmall 254 in subst P (sym (fault_below k l)) (omega (arith, l))
  | inr g ↦ let P : Wrapped V → Type 0 = IsSmall 254 in subst P (sym (fault_above k g)) (omega arith)
]

pub clipped_twice : {V : Type 0} (v : Wrapped V) → clipped (clipped v) ≡ clipped v
clipped_twice v = clipped_small (clipped v) (small_clipped v)

pub clipped_wrapped : {V : Type 0} (v : Wrapped V) → clipped (wrapped (clipped v)) ≡ clipped (wrapped v)
clipped_wrapped (Plain v) = refl
clipped_wrapped {V} (Fault k) = elim (cases_lt k 254) [
  | inl l ↦ ap (λ (u : Wrapped V). clipped (wrapped u)) (fault_below k l)
  | inr g ↦ ap (λ (u : Wrapped V). clipped (wrapped u)) (fault_above k g) ∙ fault_above 255 (omega arith) ∙ sym (fault_above (k + 1) (omega (arith, g)))
]

pub clipped_or : {V : Type 0} (o : Option (Wrapped V)) (v : Wrapped V) → clipped (or_passed o (clipped v)) ≡ clipped (or_passed o v)
clipped_or None v = clipped_twice v
clipped_or (Some u) v = refl

pub or_small : {V : Type 0} (most : ℕ) (o : Option (Wrapped V)) (v : Wrapped V) → 251 ≤ most → IfSome o (λ u. IsSmall 251 u) → IsSmall most v → IsSmall most (or_passed o v)
or_small most None v up h small = small
or_small most (Some u) v up h small = small_more 251 most u up h

module _ {V : Type 0} (full : List ℕ) (own : Wrapped V) (says : ℕ → List ℕ → Option (Wrapped V)) (own_small : IsSmall 251 own) (said_small : (i : ℕ) (path : List ℕ) → IfSome (says i path) (λ v. IsSmall 251 v)) where
  back_small : (back : List ℕ) (q : ℕ) → IsSmall (251 + length back) (passed_back full own says q back)
  back_small [] q = own_small
  back_small (b ∷ back) q =
      let before : Wrapped V = passed_back full own says b back in
      let heard : Wrapped V = or_passed (says q (reverse (b ∷ back))) before in
      let e : (251 + length back) + 1 ≡ 251 + suc (length back) = omega arith in
      let small : IsSmall (251 + length back) heard = or_small (251 + length back) (says q (reverse (b ∷ back))) before (omega arith) (said_small q (reverse (b ∷ back))) (back_small back b) in
      let P : Wrapped V → Type 0 = IsSmall (251 + suc (length back)) in
      elim (cases_Bool (has_id full q)) [
        | inl f ↦ subst P (sym (cond-true (has_id full q) (wrapped heard) (Fault 0) f)) (subst (λ (m : ℕ). IsSmall m (wrapped heard)) e (small_wrapped (251 + length back) heard small))
        | inr n ↦ subst P (sym (cond-false (has_id full q) (wrapped heard) (Fault 0) n)) (omega arith)
      ]

  from_small : (back : List ℕ) → 0 < length back → length back ≤ 4 → IsSmall 254 (passed_from full own says back)
  from_small [] some few = absurd (omega arith)
  from_small (q ∷ back) some few = small_more (251 + length back) 254 (passed_back full own says q back) (omega (arith, few)) (back_small back q)

  -- what is heard for a path of at most four nodes
  pub heard_small : (i : ℕ) (path : List ℕ) → 0 < length path → length path ≤ 4 → IsSmall 254 (or_passed (says i path) (passed full own says path))
  heard_small i path some few =
      or_small 254 (says i path) (passed full own says path) (omega arith) (said_small i path)
      (from_small (reverse path) (omega (arith, length-reverse path)) (omega (arith, length-reverse path)))
