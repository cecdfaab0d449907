-- Bytes that take the places of others in a frame.
use Rattle.std.specs.Prelude.{ℕ, suc, ◌+◌, ◌-◌, ◌<◌, ◌≤◌, ◌⊎◌, ◌&&◌, nat_le, nat_lt, List, [], ◌∷◌, length, slice_index, if◌then◌else◌}

-- the bytes of a frame that stand from place `from` on, where others take their places from place `at` on
abbrev pub overlaid : ℕ → List ℕ → ℕ → List ℕ → List ℕ
overlaid at bytes from [] = []
overlaid at bytes from (x ∷ xs) = (if nat_le at from && nat_lt from (at + length bytes) then slice_index bytes (from - at) else x) ∷ overlaid at bytes (suc from) xs

-- none of so many bytes from place `from` on is replaced, where so many others stand from place `at` on
abbrev pub IsClear : ℕ → ℕ → ℕ → ℕ → Type 0
IsClear at count from width = (i : ℕ) → from ≤ i → i < from + width → (i < at) ⊎ (at + count ≤ i)
