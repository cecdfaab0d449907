-- The numbers of a clock fit 64 bits, and are read as they were written.
use Rattle.std.proofs.Common.{◌≡◌, ◌<◌, ◌^◌, ℕ, ℤ, pos, negsuc, ◌≤ℤ◌, List, w64, sym, subst, arith}
use Rattle.std.proofs.lemmas.Int.{ints, to_z-of_z}
use mir.Val.{SFits, to_z, of_z}
use Rattle.clock_skew.specs.Clock.{IsBound, IsUpTo, AreUpTo, number_at, row_in_turn}

bound_fits : (z : ℤ) → IsBound z → SFits w64 z
bound_fits (pos n) h = record { sfits = omega (arith, ints, h.1) }
bound_fits (negsuc n) h = absurd (omega (arith, ints, h.0))

up_to_fits : (limit z : ℤ) → limit ≤ℤ pos (2 ^ 40) → IsUpTo limit z → SFits w64 z
up_to_fits limit (pos n) small h = record { sfits = omega (arith, ints, small, h.1) }
up_to_fits limit (negsuc n) small h = record { sfits = omega (arith, ints, small, h.0) }

pub bound_read : (z : ℤ) → IsBound z → to_z w64 (of_z w64 z) ≡ z
bound_read z h = to_z-of_z w64 z (bound_fits z h)

pub number_read : (limit z : ℤ) → limit ≤ℤ pos (2 ^ 40) → IsUpTo limit z → to_z w64 (of_z w64 z) ≡ z
number_read limit z small h = to_z-of_z w64 z (up_to_fits limit z small h)

pub still_near : (limit z : ℤ) → limit ≤ℤ pos (2 ^ 40) → IsUpTo limit z → IsUpTo limit (to_z w64 (of_z w64 z))
still_near limit z small h = subst (IsUpTo limit) (sym (number_read limit z small h)) h

-- a number of the row whose turn it is
pub row_near : (limit : ℤ) (nodes i turn : ℕ) (rows held : List (List ℤ))
    → rows ≡ held → AreUpTo nodes limit (row_in_turn held turn) → i < nodes → IsUpTo limit (number_at (row_in_turn rows turn) i)
row_near limit nodes i turn rows held same all low = subst (λ (rs : List (List ℤ)). IsUpTo limit (number_at (row_in_turn rs turn) i)) (sym same) (all i low)
