-- How far numbers are apart, and the cut.
use Rattle.std.proofs.Common.{◌≡◌, ℤ, pos, negsuc, ◌+ℤ◌, ◌-ℤ◌, ◌≤ℤ◌, false, arith}
use Rattle.std.specs.Prelude.{int_lt, neg_ℤ, if◌then◌else◌}
use Rattle.std.proofs.lemmas.Int.{ints}
use Rattle.mme_vote.specs.Vote.{distance}
use Rattle.mme_vote.specs.VoteLaws.{distance_high, distance_sym, distance_le}
use Rattle.protocol.specs.View.{cut, value_limit}

-- a bound of both differences bounds the distance
span_le : (x y d : ℤ) → (x -ℤ y) ≤ℤ d → (y -ℤ x) ≤ℤ d → pos (distance x y) ≤ℤ d
span_le x y (pos n) h k = let l = distance_le x y n h k in omega (arith, ints)
span_le x y (negsuc n) h k = absurd (omega (arith, ints))

pub above_from : (x y d : ℤ) → pos (distance x y) ≤ℤ d → (x -ℤ d) ≤ℤ y
above_from x y d h = let e = distance_high x y in omega (arith, ints)

pub below_from : (x y d : ℤ) → pos (distance x y) ≤ℤ d → y ≤ℤ (x +ℤ d)
below_from x y d h = let e = distance_high y x in let f = distance_sym x y in omega (arith, ints)

pub within_from : (x v d : ℤ) → (x -ℤ d) ≤ℤ v → v ≤ℤ (x +ℤ d) → pos (distance x v) ≤ℤ d
within_from x v d h k = span_le x v d (omega (arith, ints)) (omega (arith, ints))

pub between : (low high v w d : ℤ) → pos (distance low high) ≤ℤ d → low ≤ℤ v → v ≤ℤ high → low ≤ℤ w → w ≤ℤ high → pos (distance v w) ≤ℤ d
between low high v w d h a b c e =
    let f = distance_high high low in let g = distance_sym low high in
    span_le v w d (omega (arith, ints)) (omega (arith, ints))

-- what isn't further than d isn't told to be so
pub not_far : (d : ℤ) (x y : ℤ) → pos (distance x y) ≤ℤ d → int_lt d (pos (distance x y)) ≡ false
not_far d x y h = grind (arith, ints)

-- a cut to a range brings no two numbers further apart
abbrev cut_to : ℤ → ℤ → ℤ → ℤ
cut_to low high v = if int_lt v low then low else (if int_lt high v then high else v)

cut_near : (low high v w d : ℤ) → low ≤ℤ high → pos 0 ≤ℤ d → (v -ℤ w) ≤ℤ d → (cut_to low high v -ℤ cut_to low high w) ≤ℤ d
cut_near low high v w d h p k = grind (arith, ints)

pub cut_close : (v w step d : ℤ) → pos (distance v w) ≤ℤ d → pos (distance (cut (v +ℤ step)) (cut (w +ℤ step))) ≤ℤ d
cut_close v w step d h =
    let f = distance_high v w in let g = distance_high w v in let e = distance_sym v w in
    let l : neg_ℤ value_limit ≤ℤ value_limit = omega (arith, ints) in
    let p : pos 0 ≤ℤ d = omega (arith, ints) in
    span_le (cut (v +ℤ step)) (cut (w +ℤ step)) d
    (cut_near (neg_ℤ value_limit) value_limit (v +ℤ step) (w +ℤ step) d l p (omega (arith, ints)))
    (cut_near (neg_ℤ value_limit) value_limit (w +ℤ step) (v +ℤ step) d l p (omega (arith, ints)))
