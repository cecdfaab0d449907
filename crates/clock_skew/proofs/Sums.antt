-- Sums of clock numbers, which don't wrap.
use Rattle.std.proofs.Common.{ℕ, ◌≡◌, ◌^◌, ℤ, pos, ◌+ℤ◌, ◌-ℤ◌, sym, ap₂, subst, ◌∙◌, arith, w64, to_z, of_z, FitsSigned, List, length, inl, inr}
use Rattle.std.specs.Prelude.{All, slice_index_or}
use Rattle.std.proofs.lemmas.Int.{ints, to_z-of_z, fits_signed_from_abs}
use Rattle.std.proofs.lemmas.Bool.{cases_lt}
use Rattle.std.proofs.lemmas.List.{get_or_past}
use Rattle.std.proofs.lemmas.List.Elements.{All-get_or}
use Rattle.clock_skew.specs.Clock.{IsUpTo, IsBound}
use Rattle.clock_skew.specs.Correction.{IsReading}
use Rattle.clock_skew.specs.Reading.{IsOffset}

-- what is written and read back
abbrev stored : ℤ → ℤ
stored z = to_z w64 (of_z w64 z)

abbrev IsSmall : ℤ → Type 0
IsSmall z = IsUpTo (pos (2 ^ 62)) z

pub small_fits : (z : ℤ) → IsSmall z → FitsSigned w64 z
small_fits z h = let h0 = h.0 in let h1 = h.1 in fits_signed_from_abs w64 z (omega (arith, ints))

pub small_kept : (z : ℤ) → IsSmall z → stored z ≡ z
small_kept z h = to_z-of_z w64 z (small_fits z h)

pub reading_fits : (z : ℤ) → IsReading z → FitsSigned w64 z
reading_fits z h = let h0 = h.0 in let h1 = h.1 in small_fits z (omega (arith, ints), omega (arith, ints))

pub reading_kept : (z : ℤ) → IsReading z → to_z w64 (of_z w64 z) ≡ z
reading_kept z h = to_z-of_z w64 z (reading_fits z h)

-- what holds of 0 and of each number of a list holds of the number at any place
pub number_is : (P : ℤ → Type 0) → P (pos 0) → (xs : List ℤ) (k : ℕ) → All P xs → P (slice_index_or xs k (pos 0))
number_is P zero xs k all = elim (cases_lt k (length xs)) [
  | inl low ↦ All-get_or P xs k (pos 0) low all
  | inr high ↦ subst P (sym (get_or_past xs k (pos 0) high)) zero
]

pub zero_offset : IsOffset (pos 0)
zero_offset = (omega (arith, ints), omega (arith, ints))

pub zero_reading : IsReading (pos 0)
zero_reading = (omega (arith, ints), omega (arith, ints))

pub zero_lie : IsUpTo (pos (2 ^ 40)) (pos 0)
zero_lie = (omega (arith, ints), omega (arith, ints))

pub zero_error : IsUpTo (pos (2 ^ 20)) (pos 0)
zero_error = (omega (arith, ints), omega (arith, ints))

pub error_small : (bound e : ℤ) → IsBound bound → IsUpTo bound e → IsUpTo (pos (2 ^ 20)) e
error_small bound e b h = let b1 = b.1 in let h0 = h.0 in let h1 = h.1 in (omega (arith, ints), omega (arith, ints))

module _ (x a e l : ℤ) (hx : IsOffset x) (ha : IsOffset a) (he : IsUpTo (pos (2 ^ 20)) e) (hl : IsUpTo (pos (2 ^ 40)) l) where
  offset_small : (z : ℤ) → IsOffset z → IsSmall z
  offset_small z h = let h0 = h.0 in let h1 = h.1 in (omega (arith, ints), omega (arith, ints))

  ahead_small : IsSmall (x -ℤ a)
  ahead_small = let x0 = hx.0 in let x1 = hx.1 in let a0 = ha.0 in let a1 = ha.1 in (omega (arith, ints), omega (arith, ints))

  ahead_is : stored (stored x -ℤ stored a) ≡ x -ℤ a
  ahead_is = ap₂ (λ (u v : ℤ). stored (u -ℤ v)) (small_kept x (offset_small x hx)) (small_kept a (offset_small a ha)) ∙ small_kept (x -ℤ a) ahead_small

  pub ahead_fits : FitsSigned w64 (stored x -ℤ stored a)
  ahead_fits = subst (λ (z : ℤ). FitsSigned w64 z) (sym (ap₂ ◌-ℤ◌ (small_kept x (offset_small x hx)) (small_kept a (offset_small a ha)))) (small_fits (x -ℤ a) ahead_small)

  error_is : stored e ≡ e
  error_is = let h0 = he.0 in let h1 = he.1 in small_kept e (omega (arith, ints), omega (arith, ints))

  lie_is : stored l ≡ l
  lie_is = let h0 = hl.0 in let h1 = hl.1 in small_kept l (omega (arith, ints), omega (arith, ints))

  shown_small : IsSmall ((x -ℤ a) +ℤ e)
  shown_small = let x0 = hx.0 in let x1 = hx.1 in let a0 = ha.0 in let a1 = ha.1 in let e0 = he.0 in let e1 = he.1 in (omega (arith, ints), omega (arith, ints))

  shown_is : stored (stored (stored x -ℤ stored a) +ℤ stored e) ≡ (x -ℤ a) +ℤ e
  shown_is = ap₂ (λ (u v : ℤ). stored (u +ℤ v)) ahead_is error_is ∙ small_kept ((x -ℤ a) +ℤ e) shown_small

  reading_in : IsReading (((x -ℤ a) +ℤ e) +ℤ l)
  reading_in = let x0 = hx.0 in let x1 = hx.1 in let a0 = ha.0 in let a1 = ha.1 in let e0 = he.0 in let e1 = he.1 in let l0 = hl.0 in let l1 = hl.1 in (omega (arith, ints), omega (arith, ints))

  reading_small : (z : ℤ) → IsReading z → IsSmall z
  reading_small z h = let h0 = h.0 in let h1 = h.1 in (omega (arith, ints), omega (arith, ints))

  pub error_fits : FitsSigned w64 (stored (stored x -ℤ stored a) +ℤ stored e)
  error_fits = subst (λ (z : ℤ). FitsSigned w64 z) (sym (ap₂ ◌+ℤ◌ ahead_is error_is)) (small_fits ((x -ℤ a) +ℤ e) shown_small)

  pub lie_fits : FitsSigned w64 (stored (stored (stored x -ℤ stored a) +ℤ stored e) +ℤ stored l)
  lie_fits = subst (λ (z : ℤ). FitsSigned w64 z) (sym (ap₂ ◌+ℤ◌ shown_is lie_is)) (small_fits (((x -ℤ a) +ℤ e) +ℤ l) (reading_small (((x -ℤ a) +ℤ e) +ℤ l) reading_in))

  pub reading_is : stored (stored (stored (stored x -ℤ stored a) +ℤ stored e) +ℤ stored l) ≡ ((x -ℤ a) +ℤ e) +ℤ l
  reading_is = ap₂ (λ (u v : ℤ). stored (u +ℤ v)) shown_is lie_is ∙ small_kept (((x -ℤ a) +ℤ e) +ℤ l) (reading_small (((x -ℤ a) +ℤ e) +ℤ l) reading_in)

  pub reading_within : IsReading (stored (stored (stored (stored x -ℤ stored a) +ℤ stored e) +ℤ stored l))
  reading_within = subst IsReading (sym reading_is) reading_in

module _ (x y d : ℤ) (hx : IsOffset x) (hy : IsReading y) (hd : IsUpTo (pos (2 ^ 20)) d) where
  corrected_small : IsSmall (x +ℤ y)
  corrected_small = let x0 = hx.0 in let x1 = hx.1 in let y0 = hy.0 in let y1 = hy.1 in (omega (arith, ints), omega (arith, ints))

  drifted_small : IsSmall ((x +ℤ y) +ℤ d)
  drifted_small = let x0 = hx.0 in let x1 = hx.1 in let y0 = hy.0 in let y1 = hy.1 in let d0 = hd.0 in let d1 = hd.1 in (omega (arith, ints), omega (arith, ints))

  kept_x : stored x ≡ x
  kept_x = let x0 = hx.0 in let x1 = hx.1 in small_kept x (omega (arith, ints), omega (arith, ints))

  corrected_is : stored (stored x +ℤ stored y) ≡ x +ℤ y
  corrected_is = ap₂ (λ (u v : ℤ). stored (u +ℤ v)) kept_x (reading_kept y hy) ∙ small_kept (x +ℤ y) corrected_small

  pub corrected_fits : FitsSigned w64 (stored x +ℤ stored y)
  corrected_fits = subst (λ (z : ℤ). FitsSigned w64 z) (sym (ap₂ ◌+ℤ◌ kept_x (reading_kept y hy))) (small_fits (x +ℤ y) corrected_small)

  drift_is : stored d ≡ d
  drift_is = let d0 = hd.0 in let d1 = hd.1 in small_kept d (omega (arith, ints), omega (arith, ints))

  pub drift_fits : FitsSigned w64 (stored (stored x +ℤ stored y) +ℤ stored d)
  drift_fits = subst (λ (z : ℤ). FitsSigned w64 z) (sym (ap₂ ◌+ℤ◌ corrected_is drift_is)) (small_fits ((x +ℤ y) +ℤ d) drifted_small)

  pub drifted_is : stored (stored (stored x +ℤ stored y) +ℤ stored d) ≡ (x +ℤ y) +ℤ d
  drifted_is = ap₂ (λ (u v : ℤ). stored (u +ℤ v)) corrected_is drift_is ∙ small_kept ((x +ℤ y) +ℤ d) drifted_small
