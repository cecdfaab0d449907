-- Parts that are gathered in loops.
use Rattle.std.proofs.Common.{◌≡◌, ℕ, zero, suc, ◌+◌, ◌-◌, ◌<◌, ◌≤◌, Bool, true, false, not, cond, ◌==◌, ◌%◌, ◌/◌, List, [], ◌∷◌, ◌++◌, map, filter, length, take, get_or, ℤ, pos, refl, sym, ap, ap₂, ◌∙◌, append_assoc, append-nil, arith, eq-eqb}
use Rattle.std.specs.List.{range_with_len, flat_map}
use Rattle.std.proofs.lemmas.Bool.{ne_eqb}
use Rattle.std.proofs.lemmas.List.{take_more}
use Rattle.drawn_scenarios.specs.Lines.{picked, others}

pub flat_append : {X Y : Type 0} (f : X → List Y) (xs ys : List X) → flat_map f (xs ++ ys) ≡ flat_map f xs ++ flat_map f ys
flat_append f [] ys = refl
flat_append f (x ∷ xs) ys = ap (λ zs. f x ++ zs) (flat_append f xs ys) ∙ sym (append_assoc (f x) (flat_map f xs) (flat_map f ys))

pub flat_push : {X Y : Type 0} (f : X → List Y) (xs : List X) (x : X) → flat_map f (xs ++ x ∷ []) ≡ flat_map f xs ++ f x
flat_push f xs x = flat_append f xs (x ∷ []) ∙ ap (λ zs. flat_map f xs ++ zs) (append-nil (f x))

-- one item more of a list
pub one_over : {X Y : Type 0} (f : X → List Y) (xs : List X) (i : ℕ) (x : X) (before now after : List Y) → i < length xs → x ≡ get_or xs i x → now ≡ before ++ flat_map f (take i xs) → after ≡ now ++ f x
    → after ≡ before ++ flat_map f (take (i + 1) xs)
one_over f xs i x before now after low at so more =
    more ∙ ap (λ zs. zs ++ f x) so ∙ append_assoc before (flat_map f (take i xs)) (f x) ∙ ap (λ zs. before ++ zs) (sym (ap (flat_map f) step ∙ flat_push f (take i xs) x))
  where
    step : take (i + 1) xs ≡ take i xs ++ x ∷ []
    step = take_more xs i x low ∙ ap (λ y. take i xs ++ y ∷ []) (sym at)

pub filtered_flat : {X Y : Type 0} (t : X → Bool) (f : X → Y) (xs : List X) → map f (filter t xs) ≡ flat_map (λ x. cond (t x) (f x ∷ []) []) xs
filtered_flat t f [] = refl
filtered_flat t f (x ∷ xs) = elim (t x) as (λ b. map f (cond b (x ∷ filter t xs) (filter t xs)) ≡ cond b (f x ∷ []) [] ++ flat_map (λ y. cond (t y) (f y ∷ []) []) xs) [
  | true ↦ ap (λ ys. f x ∷ ys) (filtered_flat t f xs)
  | false ↦ filtered_flat t f xs
]

range_more : (a n : ℕ) → range_with_len a (n + 1) ≡ range_with_len a n ++ (a + n) ∷ []
range_more a zero = let e : a ≡ a + 0 = omega arith in ap (λ k. k ∷ []) e
range_more a (suc n) =
    let e : suc n + 1 ≡ suc (n + 1) = omega arith in
    let f : a + 1 + n ≡ a + suc n = omega arith in
    rw e (ap (λ ks. a ∷ ks) (range_more (a + 1) n ∙ ap (λ k. range_with_len (a + 1) n ++ k ∷ []) f))

-- one period more
pub one_period : {Y : Type 0} (f : ℕ → List Y) (p : ℕ) (now after : List Y) → 1 ≤ p → now ≡ flat_map f (range_with_len 1 (p - 1)) → after ≡ now ++ f p → after ≡ flat_map f (range_with_len 1 (p + 1 - 1))
one_period f p now after some so more =
    let e : p + 1 - 1 ≡ p - 1 + 1 = omega arith in
    let d : 1 + (p - 1) ≡ p = omega arith in
    more ∙ ap (λ zs. zs ++ f p) so
    ∙ sym (ap (λ n. flat_map f (range_with_len 1 n)) e ∙ ap (flat_map f) (range_more 1 (p - 1) ∙ ap (λ k. range_with_len 1 (p - 1) ++ k ∷ []) d) ∙ flat_push f (range_with_len 1 (p - 1)) p)

-- ---- some of the other nodes

-- the others from node i on
abbrev pub left : ℕ → ℕ → ℕ → List ℕ
left n j i = filter (λ k. not (k == j)) (range_with_len i (n - i))

pub left_first : (n j : ℕ) → left n j 0 ≡ others n j
left_first n j = let e : n - 0 ≡ n = omega arith in rw e refl

pub left_itself : (n j i : ℕ) → i < n → i ≡ j → left n j i ≡ left n j (i + 1)
left_itself n j i low e = let more : n - i ≡ suc (n - (i + 1)) = omega arith in rw (more, eq-eqb i j e) refl

pub left_other : (n j i : ℕ) → i < n → (i ≡ j → ⊥) → left n j i ≡ i ∷ left n j (i + 1)
left_other n j i low ne = let more : n - i ≡ suc (n - (i + 1)) = omega arith in rw (more, ne_eqb i j ne) refl

pub left_none : (n j i : ℕ) → n ≤ i → left n j i ≡ []
left_none n j i past = let e : n - i ≡ 0 = omega arith in rw e refl

-- those that are picked so far, and those that are left to be picked
abbrev pub GoesOver : List ℤ → ℕ → ℕ → ℕ → ℕ → ℕ → Type 0
GoesOver now bits n j i mask = now ++ map pos (picked bits (left n j i)) ≡ map pos (picked mask (others n j))

pub over_first : (n j mask : ℕ) (now : List ℤ) → now ≡ [] → GoesOver now mask n j 0 mask
over_first n j mask now e = ap₂ (λ (xs : List ℤ) (js : List ℕ). xs ++ map pos (picked mask js)) e (left_first n j)

pub over_itself : (now : List ℤ) (bits n j i mask : ℕ) → i < n → i ≡ j → GoesOver now bits n j i mask → GoesOver now bits n j (i + 1) mask
over_itself now bits n j i mask low e o = ap (λ (js : List ℕ). now ++ map pos (picked bits js)) (sym (left_itself n j i low e)) ∙ o

pub over_picked : (now : List ℤ) (z : ℤ) (after : List ℤ) (bits n j i mask : ℕ) → i < n → (i ≡ j → ⊥) → bits % 2 ≡ 1 → z ≡ pos i → after ≡ now ++ z ∷ [] → GoesOver now bits n j i mask → GoesOver after (bits / 2) n j (i + 1) mask
over_picked now z after bits n j i mask low ne odd is more o =
    let step : picked bits (left n j i) ≡ i ∷ picked (bits / 2) (left n j (i + 1)) = rw (left_other n j i low ne, eq-eqb (bits % 2) 1 odd) refl in
    ap (λ (xs : List ℤ). xs ++ map pos (picked (bits / 2) (left n j (i + 1)))) (more ∙ ap (λ (x : ℤ). now ++ x ∷ []) is)
    ∙ append_assoc now (pos i ∷ []) (map pos (picked (bits / 2) (left n j (i + 1)))) ∙ sym (ap (λ (js : List ℕ). now ++ map pos js) step) ∙ o

pub over_spared : (now : List ℤ) (bits n j i mask : ℕ) → i < n → (i ≡ j → ⊥) → (bits % 2 ≡ 1 → ⊥) → GoesOver now bits n j i mask → GoesOver now (bits / 2) n j (i + 1) mask
over_spared now bits n j i mask low ne even o =
    let step : picked bits (left n j i) ≡ picked (bits / 2) (left n j (i + 1)) = rw (left_other n j i low ne, ne_eqb (bits % 2) 1 even) refl in
    sym (ap (λ (js : List ℕ). now ++ map pos js) step) ∙ o

pub over_all : (now : List ℤ) (bits n j i mask : ℕ) → n ≤ i → GoesOver now bits n j i mask → now ≡ map pos (picked mask (others n j))
over_all now bits n j i mask past o =
    sym (append-nil now) ∙ ap (λ (js : List ℕ). now ++ map pos (picked bits js)) (sym (left_none n j i past)) ∙ o

pub over_at : (at now : List ℤ) (bits n j i mask : ℕ) → at ≡ now → GoesOver now bits n j i mask → GoesOver at bits n j i mask
over_at at now bits n j i mask e o = ap (λ (xs : List ℤ). xs ++ map pos (picked bits (left n j i))) e ∙ o
