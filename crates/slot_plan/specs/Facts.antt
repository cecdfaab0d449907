-- Facts that several crates cite.
use Rattle.std.proofs.Common.{arith, inl, inr, min, refl, ℕ, ◌&&◌, ◌+◌, ◌<◌, ◌≡◌, ◌≤◌}
use Rattle.std.proofs.lemmas.Bool.{cases_lt, le-leb, le-ltb, lt-leb, lt-ltb}
use Rattle.std.specs.Prelude.{nat_le, nat_lt}

-- a place that was written lies within the frame
pub written_within : (at place end long count k : ℕ) → end ≡ min long (at + count) → k < long → (at ≤ end → place ≤ end) → end ≤ place → (nat_le at k && nat_lt k place) ≡ (nat_le at k && nat_lt k (at + count))
written_within at place end long count k is within low high = elim (cases_lt k at) [
  | inl before ↦ rw (lt-leb at k before) refl
  | inr after ↦ elim (cases_lt k (at + count)) [
    | inl inside ↦ rw (le-leb at k after, lt-ltb k (at + count) inside, lt-ltb k place (omega arith)) refl
    | inr past ↦ rw (le-leb at k after, le-ltb k (at + count) past, le-ltb k place (omega (arith, low (omega arith)))) refl
  ]
]
