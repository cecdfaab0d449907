-- Values are close where the least and the greatest of them are.
use Rattle.std.proofs.Common.{◌≡◌, ◌⊎◌, ℕ, suc, ◌+◌, ◌<◌, ◌≤◌, ◌≤ℤ◌, ℤ, pos, Bool, true, false, List, [], ◌∷◌, length, refl, sym, ap, ◌∙◌, arith, inl, inr, int_lt, not}
use Rattle.std.specs.Prelude.{slice_index_or}
use Rattle.std.specs.List.{list_all}
use Rattle.std.specs.Int.{int_min, int_max}
use Rattle.std.proofs.lemmas.Bool.{cases_Bool, cases_eq}
use Rattle.std.proofs.lemmas.Int.{ints}
use Rattle.mme_vote.specs.Vote.{distance}
use Rattle.mme_vote.specs.VoteLaws.{distance_high, distance_le}
use Rattle.scenario.specs.Rules.{is_near, are_close}
use Rattle.scenario.proofs.Rows.{close_row, near_is}

abbrev at : List ℤ → ℕ → ℤ
at vs k = slice_index_or vs k (pos 0)

-- the least and the greatest of the first n values, both of which are among them all
pub record IsSpread (vs : List ℤ) (n : ℕ) (least greatest : ℤ) : Type 0 where
  pub bounds : (k : ℕ) → k < n → (least ≤ℤ at vs k) × (at vs k ≤ℤ greatest)
  pub has_least : (k : ℕ) × (k < length vs) × (at vs k ≡ least)
  pub has_greatest : (k : ℕ) × (k < length vs) × (at vs k ≡ greatest)

-- each value passes a test where that at each place does
passes_all : (p : ℤ → Bool) (vs : List ℤ) → ((k : ℕ) → k < length vs → p (at vs k) ≡ true) → list_all p vs ≡ true
passes_all p [] h = refl
passes_all p (v ∷ vs) h = rw (h 0 (omega arith)) (passes_all p vs (λ k low. h (suc k) (omega arith)))

near_if : (delta v w : ℤ) → pos (distance v w) ≤ℤ delta → is_near delta v w ≡ true
near_if delta v w h =
    let e : int_lt delta (pos (distance v w)) ≡ false = grind (arith, ints) in
    ap not e

-- two numbers between these are no further apart
between : (least greatest v w : ℤ) → least ≤ℤ v → v ≤ℤ greatest → least ≤ℤ w → w ≤ℤ greatest → distance v w ≤ distance greatest least
between least greatest v w a b c d =
    let h = distance_high greatest least in
    distance_le v w (distance greatest least) (omega (arith, ints)) (omega (arith, ints))

pub close_by_spread : (delta least greatest : ℤ) (vs : List ℤ) (n : ℕ) → length vs ≤ n → IsSpread vs n least greatest → is_near delta greatest least ≡ are_close delta vs
close_by_spread delta least greatest vs n whole s = elim (cases_Bool (is_near delta greatest least)) [
  | inl near ↦
      let d = near_is delta greatest least near in
      near ∙ sym (passes_all (λ v. list_all (is_near delta v) vs) vs (λ i low. passes_all (is_near delta (at vs i)) vs (λ j low_too.
      let a = s.bounds i (omega arith) in
      let b = s.bounds j (omega arith) in
      let c = between least greatest (at vs i) (at vs j) a.0 a.1 b.0 b.1 in
      near_if delta (at vs i) (at vs j) (omega (arith, ints)))))
  | inr far ↦ far ∙ sym (elim (cases_Bool (are_close delta vs)) [
    | inl close ↦
        let g = s.has_greatest in
        let l = s.has_least in
        let d = close_row delta vs g.0 l.0 close g.1 l.1 in
        let near = near_if delta (at vs g.0) (at vs l.0) d in
        let wrong : is_near delta greatest least ≡ true = rw (sym g.2, sym l.2) near in
        absurd (let e : true ≡ false = sym wrong ∙ far in cc)
    | inr apart ↦ apart
  ])
]

-- the first alone
pub spread_of_first : (vs : List ℤ) (v : ℤ) → 0 < length vs → at vs 0 ≡ v → IsSpread vs 0 v v
spread_of_first vs v some is = record {
  bounds = λ k low. absurd (omega arith);
  has_least = (0, some, is);
  has_greatest = (0, some, is);
}

one_of : (vs : List ℤ) (n : ℕ) (old new : ℤ) → n < length vs → ((k : ℕ) × (k < length vs) × (at vs k ≡ old)) → (new ≡ old) ⊎ (new ≡ at vs n)
    → (k : ℕ) × (k < length vs) × (at vs k ≡ new)
one_of vs n old new low had which = elim which [
  | inl same ↦ (had.0, had.1, had.2 ∙ sym same)
  | inr here ↦ (n, low, sym here)
]

least_is : (a b : ℤ) → (int_min a b ≡ a) ⊎ (int_min a b ≡ b)
least_is a b = elim (cases_Bool (int_lt b a)) [
  | inl on ↦ inr (rw on refl)
  | inr off ↦ inl (rw off refl)
]

greatest_is : (a b : ℤ) → (int_max a b ≡ a) ⊎ (int_max a b ≡ b)
greatest_is a b = elim (cases_Bool (int_lt b a)) [
  | inl on ↦ inl (rw on refl)
  | inr off ↦ inr (rw off refl)
]

-- one value more
pub spread_of_more : (vs : List ℤ) (n : ℕ) (least greatest less greater v : ℤ) → IsSpread vs n least greatest → n < length vs → at vs n ≡ v
    → less ≡ int_min least v → less ≤ℤ least → less ≤ℤ v
    → greater ≡ int_max greatest v → greatest ≤ℤ greater → v ≤ℤ greater
    → IsSpread vs (n + 1) less greater
spread_of_more vs n least greatest less greater v s low is which a b which_too c d = record {
  bounds = λ k below. elim (cases_eq k n) [
    | inl same ↦ rw (same, is) (b, d)
    | inr other ↦ let h = s.bounds k (omega arith) in (omega (arith, ints), omega (arith, ints))
  ];
  has_least = one_of vs n least less low s.has_least (rw (is, which) (least_is least v));
  has_greatest = one_of vs n greatest greater low s.has_greatest (rw (is, which_too) (greatest_is greatest v));
}
