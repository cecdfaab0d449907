-- The rows of a drawn scenario are in range, and close.
use Rattle.std.proofs.Common.{◌≡◌, ℕ, zero, suc, ◌+◌, ◌*◌, ◌/◌, ◌%◌, ◌^◌, ◌<◌, ◌≤◌, Bool, true, false, ◌==◌, List, [], ◌∷◌, map, length, ℤ, pos, refl, ap, ◌∙◌, arith, eq-eqb}
use Rattle.std.specs.Prelude.{int_lt, neg_ℤ, ◌-ℤ◌}
use Rattle.std.specs.List.{range_with_len, list_all, AllByRecursion}
use Rattle.std.proofs.lemmas.Bool.{and_from, not_from_false, le-ltb}
use Rattle.std.proofs.lemmas.Int.{ints}
use Rattle.std.proofs.lemmas.List.FromFn.{length-map-range_with_len, get_or-map-range_with_len}
use Rattle.std.proofs.lemmas.Nat.{mul-le}
use Rattle.node_grid.specs.NumberFacts.{not_above}
use Rattle.mme_vote.specs.Vote.{distance}
use Rattle.mme_vote.specs.VoteLaws.{distance_le}
use Rattle.node_grid.specs.NodeSet.{ids_below}
use Rattle.clock_skew.specs.Clock.{number_at}
use Rattle.scenario.specs.Numbers.{is_between}
use Rattle.scenario.specs.Rules.{limit, are_values, is_near, are_close, are_up_to}
use Rattle.drawn_scenarios.specs.declared.series.Series.TheVariants.{Readings, Results, Starts, Drifts, Errors}
use Rattle.drawn_scenarios.specs.Series.{row}

-- ---- lists that are made number by number

pub all_of_map : {X : Type 0} (t : X → Bool) (f : ℕ → X) (a n : ℕ) → ((k : ℕ) → t (f k) ≡ true) → list_all t (map f (range_with_len a n)) ≡ true
all_of_map t f a zero h = refl
all_of_map t f a (suc n) h = and_from _ _ (h a) (all_of_map t f (a + 1) n h)

all_of_list : {X : Type 0} (t : X → Bool) (f : ℕ → X) (ks : List ℕ) → ((k : ℕ) → t (f k) ≡ true) → list_all t (map f ks) ≡ true
all_of_list t f [] h = refl
all_of_list t f (k ∷ ks) h = and_from _ _ (h k) (all_of_list t f ks h)

row_long : (f : ℕ → ℤ) (n : ℕ) → (length (map f (ids_below n)) == n) ≡ true
row_long f n = eq-eqb _ _ (length-map-range_with_len f 0 n)

-- ---- ranges

pub between : (low high x : ℕ) → low ≤ x → x ≤ high → is_between (pos low) (pos high) (pos x) ≡ true
between low high x a b = and_from _ _ (not_above low x a) (not_above x high b)

-- a number that isn't negative
up_to : (most x : ℕ) → x ≤ most → is_between (neg_ℤ (pos most)) (pos most) (pos x) ≡ true
up_to most x h = and_from _ _ (not_from_false _ (never_below x most)) (not_above x most h) where
  never_below : (x most : ℕ) → int_lt (pos x) (neg_ℤ (pos most)) ≡ false
  never_below x zero = le-ltb x 0 (omega arith)
  never_below x (suc m) = refl

near : (delta low x y : ℕ) → low ≤ x → x ≤ low + delta → low ≤ y → y ≤ low + delta → is_near (pos delta) (pos x) (pos y) ≡ true
near delta low x y a b d e = not_above (distance (pos x) (pos y)) delta (distance_le (pos x) (pos y) delta (omega (arith, ints)) (omega (arith, ints)))

pub are_near : (delta low : ℕ) (f : ℕ → ℕ) (ks js : List ℕ) → ((k : ℕ) → low ≤ f k) → ((k : ℕ) → f k ≤ low + delta) → list_all (λ v. list_all (is_near (pos delta) v) (map (λ k. pos (f k)) js)) (map (λ k. pos (f k)) ks) ≡ true
are_near delta low f ks js a b =
    all_of_list (λ v. list_all (is_near (pos delta) v) (map (λ k. pos (f k)) js)) (λ k. pos (f k)) ks
    (λ k. all_of_list (is_near (pos delta) (pos (f k))) (λ j. pos (f j)) js (λ j. near delta low (f k) (f j) (a k) (b k) (a j) (b j)))

-- ---- readings and results

readings_low : (k j : ℕ) → 100 + (3 * j + k) % 5 ≤ 104
readings_low k j = omega arith

pub readings_are : (n k : ℕ) → are_values n (row Readings n k) ≡ true
readings_are n k = and_from _ _ (row_long _ n) (all_of_map (is_between (neg_ℤ limit) limit) _ 0 n (λ j. up_to (2 ^ 42) (100 + (3 * j + k) % 5) (let l = readings_low k j in omega arith)))

pub readings_close : (n k : ℕ) → are_close (pos 4) (row Readings n k) ≡ true
readings_close n k = are_near 4 100 (λ j. 100 + (3 * j + k) % 5) (ids_below n) (ids_below n) (λ j. omega arith) (λ j. omega arith)

pub results_are : (n k : ℕ) → are_values n (row Results n k) ≡ true
results_are n k = and_from _ _ (row_long _ n) (all_of_map (is_between (neg_ℤ limit) limit) _ 0 n (λ j. up_to (2 ^ 42) (40 + j % 4) (let l : 40 + j % 4 ≤ 43 = omega arith in omega arith)))

-- those of some nodes that there are
results_at : (n k : ℕ) (js : List ℕ) → AllByRecursion (λ j. j < n) js → map (number_at (row Results n k)) js ≡ map (λ j. pos (40 + j % 4)) js
results_at n k [] a = refl
results_at n k (j ∷ js) a =
    let here : number_at (row Results n k) j ≡ pos (40 + j % 4) = get_or-map-range_with_len (λ i. pos (40 + i % 4)) 0 n j j (pos 0) a.0 (omega arith) in
    let rest = results_at n k js a.1 in cc

pub results_close : (n k : ℕ) (js : List ℕ) → AllByRecursion (λ j. j < n) js → are_close (pos 4) (map (number_at (row Results n k)) js) ≡ true
results_close n k js a = ap (are_close (pos 4)) (results_at n k js a) ∙ are_near 4 40 (λ j. 40 + j % 4) js js (λ j. omega arith) (λ j. omega arith)

-- ---- clocks

start_low : (x start : ℕ) → x ≤ 12 → x * start / 12 ≤ start
start_low x start h = let m = mul-le x start 12 start h (omega arith) in omega arith

pub starts_are : (n k start : ℕ) → start ≤ 2 ^ 40 → are_up_to n (pos (2 ^ 40)) (row (Starts start) n k) ≡ true
starts_are n k start few =
    and_from _ _ (row_long _ n) (all_of_map (is_between (neg_ℤ (pos (2 ^ 40))) (pos (2 ^ 40))) _ 0 n
    (λ j. up_to (2 ^ 40) (5 * j % 13 * start / 12) (let l = start_low (5 * j % 13) start (omega arith) in omega arith)))

drift_low : (x drift : ℕ) → x ≤ 2 → x * drift / 2 ≤ drift
drift_low x drift h = let m = mul-le x drift 2 drift h (omega arith) in omega arith

drift_at_most : (k drift j : ℕ) → (j + k) % 3 * drift / 2 ≤ drift
drift_at_most k drift j = drift_low ((j + k) % 3) drift (omega arith)

pub drifts_are : (n k drift : ℕ) → drift ≤ 2 ^ 20 → are_up_to n (pos (2 ^ 20)) (row (Drifts drift) n k) ≡ true
drifts_are n k drift few =
    and_from _ _ (row_long _ n) (all_of_map (is_between (neg_ℤ (pos (2 ^ 20))) (pos (2 ^ 20))) _ 0 n (λ j. up_to (2 ^ 20) ((j + k) % 3 * drift / 2) (let l = drift_at_most k drift j in omega arith)))

pub drifts_close : (n k drift : ℕ) → are_close (pos drift) (row (Drifts drift) n k) ≡ true
drifts_close n k drift = are_near drift 0 (λ j. (j + k) % 3 * drift / 2) (ids_below n) (ids_below n) (λ j. omega arith) (λ j. let l = drift_at_most k drift j in omega arith)

error_between : (x epsilon : ℕ) → x < 3 → is_between (neg_ℤ (pos epsilon)) (pos epsilon) (pos (x * epsilon) -ℤ pos epsilon) ≡ true
error_between x e h =
    let m = mul-le x e 2 e (omega arith) (omega arith) in
    let a : int_lt (pos (x * e) -ℤ pos e) (neg_ℤ (pos e)) ≡ false = grind (arith, ints) in
    let b : int_lt (pos e) (pos (x * e) -ℤ pos e) ≡ false = grind (arith, ints) in
    and_from _ _ (not_from_false _ a) (not_from_false _ b)

pub errors_are : (n k epsilon : ℕ) → are_up_to n (pos epsilon) (row (Errors epsilon) n k) ≡ true
errors_are n k epsilon = and_from _ _ (row_long _ n) (all_of_map (is_between (neg_ℤ (pos epsilon)) (pos epsilon)) _ 0 n (λ j. error_between ((j + k) % 3) epsilon (omega arith)))
