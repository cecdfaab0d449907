-- Loops that write the number of each node.
use Rattle.std.proofs.Common.{ℕ, ◌≡◌, ◌<◌, ◌≤◌, ◌+◌, ℤ, pos, List, map, length, get_or, sym, subst, ◌∙◌, arith, w64, to_z, of_z, length-set, below_more}
use Rattle.std.specs.Prelude.{All, slice_set}
use mir.Val.{SFits}
use Rattle.std.proofs.lemmas.Int.{to_z-of_z}
use Rattle.std.proofs.lemmas.List.Edits.{fill_by_more}
use Rattle.std.proofs.lemmas.List.FromFn.{fill_by_all}
use Rattle.std.proofs.lemmas.List.Elements.{All-from_get_or}
use Rattle.node_grid.specs.NodeSet.{ids_below}

-- f k, of which P holds, was written at each place k below i
pub record AreWritten (P : ℤ → Type 0) (f : ℕ → ℤ) (n i : ℕ) (xs : List ℤ) : Type 0 where
  pub many : length xs ≡ n
  pub each : (k : ℕ) → k < i → get_or xs k (pos 0) ≡ f k
  pub hold : (k : ℕ) → k < i → P (f k)

module _ (P : ℤ → Type 0) (f : ℕ → ℤ) (n : ℕ) where
  pub none_written : (xs : List ℤ) → length xs ≡ n → AreWritten P f n 0 xs
  none_written xs many = record { many = many; each = λ k h. absurd (omega arith); hold = λ k h. absurd (omega arith) }

  pub more_written : (i : ℕ) (xs : List ℤ) (v : ℤ) → i < n → SFits w64 v → v ≡ f i → P v → AreWritten P f n i xs → AreWritten P f n (i + 1) (slice_set xs i (to_z w64 (of_z w64 v)))
  more_written i xs v low fits is holds w =
      let within : i < length xs = let m = w.many in omega arith in
      let same : to_z w64 (of_z w64 v) ≡ f i = to_z-of_z w64 v fits ∙ is in
      subst (λ (x : ℤ). AreWritten P f n (i + 1) (slice_set xs i x)) (sym same)
      (record { many = length-set _ _ _ ∙ w.many; each = fill_by_more f xs i (pos 0) within w.each; hold = below_more _ _ w.hold (subst P is holds) })

  pub all_written : (i : ℕ) (xs : List ℤ) → n ≤ i → AreWritten P f n i xs → xs ≡ map f (ids_below n)
  all_written i xs high w = fill_by_all f xs n (pos 0) w.many (λ k h. w.each k (omega arith))

  pub all_hold : (i : ℕ) (xs : List ℤ) → n ≤ i → AreWritten P f n i xs → All P xs
  all_hold i xs high w = All-from_get_or P xs (pos 0) (λ k h. let low : k < i = let m = w.many in omega arith in subst P (sym (w.each k low)) (w.hold k low))
