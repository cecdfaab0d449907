-- Values laid at the places of nodes, and what stands at other places.
use Rattle.std.proofs.Common.{ℕ, ◌≡◌, ◌≢◌, ◌<◌, ◌≤◌, ◌+◌, ◌*◌, ◌==◌, true, List, [], ◌∷◌, ◌++◌, map, take, drop, set, get_or, length, refl, sym, ap, ◌∙◌, inl, inr, arith, eq-eqb, eqb-true}
use Rattle.std.proofs.lemmas.Bool.{cases_eq, cases_lt, or_cases, or_left, or_right}
use Rattle.std.proofs.lemmas.List.{get_or-set_same, get_or-set_other, get_or-take, get_or-drop, get_or-map, ext_get_or, length-take-le, length-drop, length-map, drop-drop, get_or_append_left, get_or_push, length_push}
use Rattle.node_grid.specs.NodeSet.{has_id}
use Rattle.node_grid.specs.ListLaws.{has_push}

-- node i has its place at f i, and no two nodes have one place
module _ {W : Type 0} (d : W) (f : ℕ → ℕ) (apart : (a b : ℕ) → a ≢ b → f a ≢ f b) where
  -- one more is laid
  pub laid_at : (want : ℕ → W) (ys : List ℕ) (q : ℕ) (was now : List W) (v : W) → ((i : ℕ) → has_id ys i ≡ true → get_or was (f i) d ≡ want i) → f q < length was → now ≡ set was (f q) v → v ≡ want q
      → (i : ℕ) → has_id (ys ++ q ∷ []) i ≡ true → get_or now (f i) d ≡ want i
  laid_at want ys q was now v before low puts is i on = elim (cases_eq i q) [
    | inl e ↦ ap (λ (xs : List W). get_or xs (f i) d) puts ∙ ap (λ (k : ℕ). get_or (set was (f q) v) (f k) d) e ∙ get_or-set_same was (f q) v d low ∙ is ∙ ap want (sym e)
    | inr ne ↦ ap (λ (xs : List W). get_or xs (f i) d) puts ∙ get_or-set_other was (f q) (f i) v d (apart i q ne)
        ∙ elim (or_cases (has_id ys i) (q == i) (sym (has_push ys q i) ∙ on)) [
          | inl was' ↦ before i was'
          | inr here ↦ absurd (ne (sym (eqb-true q i here)))
        ]
  ]

  -- and all other places stay
  pub kept_at : (ys : List ℕ) (q : ℕ) (first was now : List W) (v : W) → ((k : ℕ) → ((i : ℕ) → has_id ys i ≡ true → k ≢ f i) → get_or was k d ≡ get_or first k d) → now ≡ set was (f q) v
      → (k : ℕ) → ((i : ℕ) → has_id (ys ++ q ∷ []) i ≡ true → k ≢ f i) → get_or now k d ≡ get_or first k d
  kept_at ys q first was now v before puts k out =
      ap (λ (xs : List W). get_or xs k d) puts
      ∙ get_or-set_other was (f q) k v d (out q (has_push ys q q ∙ or_right (has_id ys q) (q == q) (eq-eqb q q refl)))
      ∙ before k (λ i on. out i (has_push ys q i ∙ or_left (has_id ys i) (q == i) on))

-- two such ways to place nodes
pub terms_apart : (at a b : ℕ) → a ≢ b → at + 16 * a ≢ at + 16 * b
terms_apart at a b ne e = ne (omega (arith, e))

pub values_apart : (from a b : ℕ) → a ≢ b → from + a ≢ from + b
values_apart from a b ne e = ne (omega (arith, e))

-- a value is put behind these places
pub kept_below : {W : Type 0} (d : W) (from at : ℕ) (first was now : List W) (v : W) → ((k : ℕ) → k < from → get_or was k d ≡ get_or first k d) → from ≤ at → now ≡ set was at v
    → (k : ℕ) → k < from → get_or now k d ≡ get_or first k d
kept_below {W} d from at first was now v before up puts k low = ap (λ (xs : List W). get_or xs k d) puts ∙ get_or-set_other was at k v d (λ e. omega arith) ∙ before k low

-- terms that stand one after another
pub row_is : {W : Type 0} (d : W) (term : ℕ → W) (ys : List ℕ) (work : List W) (s : ℕ) → s + length ys ≤ length work → ((j : ℕ) → j < length ys → get_or work (s + j) d ≡ term (get_or ys j 0))
    → take (length ys) (drop s work) ≡ map term ys
row_is {W} d term ys work s room each =
    let n : ℕ = length ys in
    let long : length (take n (drop s work)) ≡ n = length-take-le n (drop s work) (omega (arith, length-drop s work)) in
    ext_get_or d (take n (drop s work)) (map term ys) (long ∙ sym (length-map ys term))
    (λ j low. let l : j < n = omega (arith, long) in get_or-take n (drop s work) j d l ∙ get_or-drop s work j d ∙ each j l ∙ sym (get_or-map term ys j 0 d l))

-- a row that begins behind where two lists are the same
pub same_row : {W : Type 0} (a b n : ℕ) (xs ys : List W) → drop a xs ≡ drop a ys → take n (drop (a + b) xs) ≡ take n (drop (a + b) ys)
same_row {W} a b n xs ys same = ap (take n) (sym (drop-drop b a xs) ∙ ap (drop b) same ∙ drop-drop b a ys)

-- one more term in a row
pub row_more : {W : Type 0} (d : W) (term : ℕ → W) (ys : List ℕ) (q : ℕ) (was now : List W) (s : ℕ) → ((j : ℕ) → j < length ys → get_or was (s + j) d ≡ term (get_or ys j 0)) → ((j : ℕ) → j < length ys → get_or now (s + j) d ≡ get_or was (s + j) d)
    → get_or now (s + length ys) d ≡ term q → (j : ℕ) → j < length (ys ++ q ∷ []) → get_or now (s + j) d ≡ term (get_or (ys ++ q ∷ []) j 0)
row_more {W} d term ys q was now s before same here j low = elim (cases_lt j (length ys)) [
  | inl l ↦ same j l ∙ before j l ∙ ap term (sym (get_or_append_left ys (q ∷ []) 0 j l))
  | inr end ↦
      let e : j ≡ length ys = omega (arith, low, end, length_push ys q) in
      ap (λ (k : ℕ). get_or now (s + k) d) e ∙ here ∙ ap term (sym (get_or_push ys q 0 j (sym e)))
]

-- the terms of one column and those before it, in rows of sixteen
pub cells_apart : (from n i j k : ℕ) → j < n → n ≤ 15 → from + 16 + 16 * i + j ≢ from + 16 + n + 16 * k
cells_apart from n i j k less few e = omega (arith, less, few, e)
