-- Lists with further places behind them.
use Rattle.std.proofs.Common.{ℕ, zero, suc, ◌≡◌, ◌<◌, ◌≤◌, ◌+◌, Bool, true, false, ◌==◌, List, [], ◌∷◌, ◌++◌, map, length, take, replicate, get_or, refl, sym, ap, ◌∙◌, inl, inr, arith, nat_le, length-append}
use Rattle.std.proofs.Math.Path.{fun_ext}
use Rattle.std.specs.Prelude.{if◌then◌else◌}
use Rattle.std.specs.List.{filter, range_with_len}
use Rattle.std.specs.Cmp.Lexicographic.{pointwise}
use Rattle.std.proofs.lemmas.Bool.{cases_Bool, cases_lt, cond-true, cond-false}
use Rattle.std.proofs.lemmas.List.{take-append-le, append_cancel_right}
use Rattle.std.proofs.lemmas.List.FromFn.{length-map-range_with_len}
use Rattle.std.proofs.lemmas.Slice.Eq.{bytes_eq-Decides}
use Rattle.node_grid.specs.NodeSet.{ids_below, ids_where}
use Rattle.node_grid.specs.NodeSetLaws.{filter_none}
use Rattle.node_grid.specs.Count.{count, bit}
use Rattle.two_capacities.specs.Wider.{wide}

-- ---- lists of anything

past_all : {X : Type 0} (k : ℕ) (d : X) (j : ℕ) → get_or (replicate k d) j d ≡ d
past_all zero d j = refl
past_all (suc k) d zero = refl
past_all (suc k) d (suc j) = past_all k d j

-- further places with the default change nothing of what stands where
pub get_padded : {X : Type 0} (xs : List X) (k : ℕ) (d : X) (j : ℕ) → get_or (xs ++ replicate k d) j d ≡ get_or xs j d
get_padded [] k d j = past_all k d j
get_padded (x ∷ xs) k d zero = refl
get_padded (x ∷ xs) k d (suc j) = get_padded xs k d j

pub get_mapped : {X Y : Type 0} (f : X → Y) (xs : List X) (j : ℕ) (d : X) → get_or (map f xs) j (f d) ≡ f (get_or xs j d)
get_mapped f [] j d = refl
get_mapped f (x ∷ xs) zero d = refl
get_mapped f (x ∷ xs) (suc j) d = get_mapped f xs j d

pub map_twice : {X Y Z : Type 0} (f : Y → Z) (g : X → Y) (xs : List X) → map f (map g xs) ≡ map (λ x. f (g x)) xs
map_twice f g [] = refl
map_twice f g (x ∷ xs) = ap (λ ys. f (g x) ∷ ys) (map_twice f g xs)

pub map_same : {X Y : Type 0} (f g : X → Y) (xs : List X) → ((x : X) → f x ≡ g x) → map f xs ≡ map g xs
map_same f g xs h = ap (λ (e : _ → _). map e xs) (fun_ext h)

pub count_mapped : {X Y : Type 0} (test : Y → Bool) (f : X → Y) (xs : List X) → count test (map f xs) ≡ count (λ x. test (f x)) xs
count_mapped test f [] = refl
count_mapped test f (x ∷ xs) = ap (λ n. bit (test (f x)) + n) (count_mapped test f xs)

-- ---- tabulations

tab_from : {X : Type 0} (f g : ℕ → X) (z : X) (k a c : ℕ) → ((j : ℕ) → a ≤ j → j < a + c → g j ≡ f j) → ((j : ℕ) → a + c ≤ j → g j ≡ z)
    → map g (range_with_len a (c + k)) ≡ map f (range_with_len a c) ++ replicate k z
tab_from f g z zero a zero same rest = refl
tab_from f g z (suc k) a zero same rest =
    let n : zero + suc k ≡ suc (zero + k) = omega arith in
    rw n (ap (λ x. x ∷ map g (range_with_len (a + 1) (zero + k))) (rest a (omega arith)) ∙ ap (λ xs. z ∷ xs) (tab_from f g z k (a + 1) zero (λ j l u. absurd (omega arith)) (λ j l. rest j (omega arith))))
tab_from f g z k a (suc c) same rest =
    let n : suc c + k ≡ suc (c + k) = omega arith in
    rw n (ap (λ x. x ∷ map g (range_with_len (a + 1) (c + k))) (same a (omega arith) (omega arith)) ∙ ap (λ xs. f a ∷ xs) (tab_from f g z k (a + 1) c (λ j l u. same j (omega arith) (omega arith)) (λ j l. rest j (omega arith))))

-- a tabulation over more places, of which the further ones have z
pub tab_padded : {X : Type 0} (f g : ℕ → X) (z : X) (c k : ℕ) → ((j : ℕ) → j < c → g j ≡ f j) → ((j : ℕ) → c ≤ j → g j ≡ z)
    → map g (ids_below (c + k)) ≡ map f (ids_below c) ++ replicate k z
tab_padded f g z c k same rest = tab_from f g z k 0 c (λ j l u. same j (omega arith)) (λ j l. rest j (omega arith))

-- the same numbers pass a test that none from c on passes
where_from : (test : ℕ → Bool) (a c k : ℕ) → ((j : ℕ) → a + c ≤ j → test j ≡ false) → filter test (range_with_len a (c + k)) ≡ filter test (range_with_len a c)
where_from test a zero k none = filter_none test a (zero + k) (λ j l u. none j (omega arith))
where_from test a (suc c) k none =
    let n : suc c + k ≡ suc (c + k) = omega arith in
    rw n (ap (λ xs. if test a then a ∷ xs else xs) (where_from test (a + 1) c k (λ j l. none j (omega arith))))

pub where_longer : (test : ℕ → Bool) (c k : ℕ) → ((j : ℕ) → c ≤ j → test j ≡ false) → ids_where test (c + k) ≡ ids_where test c
where_longer test c k none = where_from test 0 c k (λ j l. none j (omega arith))

-- ---- lists of numbers

module _ (n k : ℕ) where
  pub wide_long : (xs : List ℕ) → n ≤ length xs → wide n k xs ≡ xs ++ replicate k 0
  wide_long xs h = cond-true (nat_le n (length xs)) _ _ (le_true n (length xs) h) where
    le_true : (a b : ℕ) → a ≤ b → nat_le a b ≡ true
    le_true a b h = grind arith

  pub wide_short : (xs : List ℕ) → length xs < n → wide n k xs ≡ xs
  wide_short xs h = cond-false (nat_le n (length xs)) _ _ (le_false n (length xs) h) where
    le_false : (a b : ℕ) → b < a → nat_le a b ≡ false
    le_false a b h = grind arith

  -- by how long the list is
  pub by_length : {A : Type 0} (xs : List ℕ) → (length xs < n → A) → (n ≤ length xs → A) → A
  by_length xs f g = elim (cases_lt (length xs) n) [ inl l ↦ f l | inr l ↦ g l ]

  pub get_wide : (xs : List ℕ) (j : ℕ) → get_or (wide n k xs) j 0 ≡ get_or xs j 0
  get_wide xs j = by_length xs (λ l. ap (λ ys. get_or ys j 0) (wide_short xs l)) (λ l. ap (λ ys. get_or ys j 0) (wide_long xs l) ∙ get_padded xs k 0 j)

  pub take_wide : (xs : List ℕ) → take n (wide n k xs) ≡ take n xs
  take_wide xs = by_length xs (λ l. ap (take n) (wide_short xs l)) (λ l. ap (take n) (wide_long xs l) ∙ take-append-le n xs (replicate k 0) l)

  pub tab_wide : (f g : ℕ → ℕ) (c : ℕ) → n ≤ c → ((j : ℕ) → j < c → g j ≡ f j) → ((j : ℕ) → c ≤ j → g j ≡ 0) → map g (ids_below (c + k)) ≡ wide n k (map f (ids_below c))
  tab_wide f g c few same rest = tab_padded f g 0 c k same rest ∙ sym (wide_long (map f (ids_below c)) (omega (arith, length-map-range_with_len f 0 c)))

  pub wide_is : (xs ys : List ℕ) → wide n k xs ≡ wide n k ys → xs ≡ ys
  wide_is xs ys e =
      by_length xs
      (λ x. by_length ys
      (λ y. sym (wide_short xs x) ∙ e ∙ wide_short ys y)
      (λ y. let l : length xs ≡ length (ys ++ replicate k 0) = ap length (sym (wide_short xs x) ∙ e ∙ wide_long ys y) in absurd (omega (arith, length-append ys (replicate k 0)))))
      (λ x. by_length ys
      (λ y. let l : length (xs ++ replicate k 0) ≡ length ys = ap length (sym (wide_long xs x) ∙ e ∙ wide_short ys y) in absurd (omega (arith, length-append xs (replicate k 0))))
      (λ y. append_cancel_right xs ys (replicate k 0) (sym (wide_long xs x) ∙ e ∙ wide_long ys y)))

  -- two lists are as equal as they were
  pub eq_wide : (xs ys : List ℕ) → pointwise ◌==◌ (wide n k xs) (wide n k ys) ≡ pointwise ◌==◌ xs ys
  eq_wide xs ys =
      let b = bytes_eq-Decides (wide n k xs) (wide n k ys) in
      let s = bytes_eq-Decides xs ys in
      elim (cases_Bool (pointwise ◌==◌ xs ys)) [
        | inl e ↦ b.1 (ap (wide n k) (s.0 e)) ∙ sym e
        | inr e ↦ elim (cases_Bool (pointwise ◌==◌ (wide n k xs) (wide n k ys))) [
          | inl w ↦ let t : true ≡ false = sym (s.1 (wide_is xs ys (b.0 w))) ∙ e in absurd (let z : ⊥ = cc in z)
          | inr w ↦ w ∙ sym e
        ]
      ]
