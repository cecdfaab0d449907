-- A loop over the members of a set, and values laid one after another by it.
use Rattle.std.proofs.Common.{ℕ, ◌≡◌, ◌≢◌, ◌<◌, ◌+◌, ◌==◌, ◌||◌, true, false, List, [], ◌∷◌, ◌++◌, set, get_or, length, refl, sym, ap, subst, ◌∙◌, inl, inr, arith, eq-eqb, eqb-true}
use Rattle.std.specs.Prelude.{◌⊎◌}
use Rattle.std.proofs.lemmas.Bool.{cases_Bool, cases_eq, or_cases, or_left, or_right, both_ways}
use Rattle.std.proofs.lemmas.List.{get_or-set_same, get_or-set_other, length-append}
use Rattle.node_grid.specs.NodeSet.{has_id, with_id, without_id, union_of}
use Rattle.node_grid.specs.NodeSetLaws.{passes_where, has-filter, has-with_id}
use Rattle.node_grid.specs.ListLaws.{has_push}
use Rattle.node_grid.specs.ListFacts.{split_all}
use Rattle.omh_paths.specs.PathLists.{has-without-left}

at_middle : (ys : List ℕ) (q : ℕ) (rest : List ℕ) → get_or (ys ++ q ∷ rest) (length ys) 0 ≡ q
at_middle [] q rest = refl
at_middle (y ∷ ys) q rest = at_middle ys q rest

pub next_at : (all ys rest left : List ℕ) (q : ℕ) → all ≡ ys ++ left → left ≡ q ∷ rest → get_or all (length ys) 0 ≡ q
next_at all ys rest left q split steps = ap (λ (xs : List ℕ). get_or xs (length ys) 0) (split ∙ ap (λ (xs : List ℕ). ys ++ xs) steps) ∙ at_middle ys q rest

pub next_short : (all ys rest left : List ℕ) (q : ℕ) → all ≡ ys ++ left → left ≡ q ∷ rest → length ys < length all
next_short all ys rest left q split steps = omega (arith, ap length split, ap length steps, length-append ys left)

pub left_out : (s nodes : List ℕ) (c i : ℕ) → nodes ≡ without_id s c → (has_id s i ≡ false) ⊎ (c ≡ i) → has_id nodes i ≡ false
left_out s nodes c i is out = elim (cases_Bool (has_id nodes i)) [
  | inr n ↦ n
  | inl y ↦
      let on = has-without-left s c i (ap (λ (xs : List ℕ). has_id xs i) (sym is) ∙ y) in
      absurd (elim out [ inl off ↦ both_ways _ off on.1 | inr e ↦ on.0 (sym e) ])
]

-- ---- values laid one after another from a place on

-- what holds of the values before holds of the next one too
pub laid_next : {W : Type 0} (P : ℕ → W → Type 0) (was now : List W) (from n at : ℕ) (v d : W) → at ≡ from + n → at < length was → now ≡ set was at v
    → ((j : ℕ) → j < n → P j (get_or was (from + j) d)) → P n v → (j : ℕ) → j < n + 1 → P j (get_or now (from + j) d)
laid_next {W} P was now from n at v d e room puts before here j l = elim (cases_eq j n) [
  | inl is ↦
      let same : from + j ≡ at = omega arith in
      subst (λ (k : ℕ). P k (get_or now (from + j) d)) (sym is)
      (subst (P n) (sym (ap (λ (xs : List W). get_or xs (from + j) d) puts ∙ ap (λ (k : ℕ). get_or (set was at v) k d) same ∙ get_or-set_same was at v d room)) here)
  | inr ne ↦
      let other : from + j ≢ at = λ s. ne (omega arith) in
      subst (P j) (sym (ap (λ (xs : List W). get_or xs (from + j) d) puts ∙ get_or-set_other was at (from + j) v d other)) (before j (omega arith))
]

-- and the others stay
pub laid_kept : {W : Type 0} (was now : List W) (k at : ℕ) (v d : W) → k ≢ at → now ≡ set was at v → get_or now k d ≡ get_or was k d
laid_kept {W} was now k at v d ne puts = ap (λ (xs : List W). get_or xs k d) puts ∙ get_or-set_other was at k v d ne

pub front_next : {W : Type 0} (P : ℕ → W → Type 0) (was now : List W) (n at : ℕ) (v d : W) → at ≡ n → at < length was → now ≡ set was at v
    → ((j : ℕ) → j < n → P j (get_or was j d)) → P n v → (j : ℕ) → j < n + 1 → P j (get_or now j d)
front_next {W} P was now n at v d e room puts before here j l = elim (cases_eq j n) [
  | inl is ↦
      let same : j ≡ at = omega arith in
      subst (λ (k : ℕ). P k (get_or now j d)) (sym is)
      (subst (P n) (sym (ap (λ (xs : List W). get_or xs j d) puts ∙ ap (λ (k : ℕ). get_or (set was at v) k d) same ∙ get_or-set_same was at v d room)) here)
  | inr ne ↦
      let other : j ≢ at = λ s. ne (omega arith) in
      subst (P j) (sym (ap (λ (xs : List W). get_or xs j d) puts ∙ get_or-set_other was at j v d other)) (before j (omega arith))
]

-- ---- values laid at the places of nodes

pub laid_each : {W : Type 0} (P : ℕ → W → Type 0) (ys : List ℕ) (q : ℕ) (was now : List W) (v d : W) → ((i : ℕ) → has_id ys i ≡ true → P i (get_or was i d)) → q < length was → now ≡ set was q v → P q v
    → (i : ℕ) → has_id (ys ++ q ∷ []) i ≡ true → P i (get_or now i d)
laid_each {W} P ys q was now v d before low puts here i on = elim (cases_eq i q) [
  | inl e ↦
      subst (λ (k : ℕ). P k (get_or now k d)) (sym e)
      (subst (P q) (sym (ap (λ (xs : List W). get_or xs q d) puts ∙ get_or-set_same was q v d low)) here)
  | inr ne ↦
      subst (P i) (sym (ap (λ (xs : List W). get_or xs i d) puts ∙ get_or-set_other was q i v d ne))
      (elim (or_cases (has_id ys i) (q == i) (sym (has_push ys q i) ∙ on)) [
        | inl earlier ↦ before i earlier
        | inr is ↦ absurd (ne (sym (eqb-true q i is)))
      ])
]

pub each_of : (P : ℕ → Type 0) (all ys left : List ℕ) → all ≡ ys ++ left → left ≡ [] → ((i : ℕ) → has_id ys i ≡ true → P i) → (i : ℕ) → has_id all i ≡ true → P i
each_of P all ys left split none before i on = before i (ap (λ (xs : List ℕ). has_id xs i) (sym (split_all all ys left split none)) ∙ on)

-- ---- sets of nodes

pub put_has : (n : ℕ) (s now : List ℕ) (q k : ℕ) → now ≡ with_id n s q → has_id now k ≡ true → (k ≡ q) ⊎ (has_id s k ≡ true)
put_has n s now q k is on = elim (or_cases (k == q) (has_id s k) (passes_where (λ x. (x == q) || has_id s x) n k (ap (λ (xs : List ℕ). has_id xs k) (sym is) ∙ on))) [
  | inl here ↦ inl (eqb-true k q here)
  | inr was ↦ inr was
]

pub put_on : (n : ℕ) (s now : List ℕ) (q k : ℕ) → now ≡ with_id n s q → k < n → (k ≡ q) ⊎ (has_id s k ≡ true) → has_id now k ≡ true
put_on n s now q k is low or = ap (λ (xs : List ℕ). has_id xs k) is ∙ has-with_id n s q k low ∙ elim or [
  | inl e ↦ or_left (k == q) (has_id s k) (eq-eqb k q e)
  | inr was ↦ or_right (k == q) (has_id s k) was
]

pub joined_has : (n : ℕ) (s t now : List ℕ) (k : ℕ) → now ≡ union_of n s t → has_id now k ≡ true → (has_id s k ≡ true) ⊎ (has_id t k ≡ true)
joined_has n s t now k is on = or_cases (has_id s k) (has_id t k) (passes_where (λ x. has_id s x || has_id t x) n k (ap (λ (xs : List ℕ). has_id xs k) (sym is) ∙ on))

pub joined_on : (n : ℕ) (s t now : List ℕ) (k : ℕ) → now ≡ union_of n s t → k < n → (has_id s k ≡ true) ⊎ (has_id t k ≡ true) → has_id now k ≡ true
joined_on n s t now k is low or = ap (λ (xs : List ℕ). has_id xs k) is ∙ has-filter (λ x. has_id s x || has_id t x) n k low ∙ elim or [
  | inl a ↦ or_left (has_id s k) (has_id t k) a
  | inr b ↦ or_right (has_id s k) (has_id t k) b
]
