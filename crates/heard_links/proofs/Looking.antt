-- Entries by their places.
use Rattle.std.proofs.Common.{ℕ, zero, suc, ◌≡◌, ◌+◌, List, [], ◌∷◌, map, refl, ap, arith, slice_index_or, slice_get}
use Rattle.omh_paths.specs.declared.wrapped.Wrapped.{Wrapped}
use Rattle.omh_paths.specs.declared.wrapped.Wrapped.TheVariants.{Fault}
use Rattle.omh_paths.specs.Wrapped.{wrapped}
use Rattle.heard_links.specs.Hearing.{passed_on}

later : {V : Type 0} (x : Wrapped V) (xs : List (Wrapped V)) (n k : ℕ) → n ≡ 1 + k → slice_index_or (x ∷ xs) n (Fault 0) ≡ slice_index_or xs k (Fault 0)
later x xs n k e = let at : n ≡ suc k = omega arith in ap (λ (i : ℕ). slice_index_or (x ∷ xs) i (Fault 0)) at

-- the entry at a place of the entries for some paths
pub passed_at : {V : Type 0} (heard : List ℕ → Wrapped V) (paths : List (List ℕ)) (k : ℕ) → slice_index_or (map (λ path. wrapped (heard path)) paths) k (Fault 0) ≡ passed_on heard (slice_get paths k)
passed_at heard [] k = refl
passed_at heard (p ∷ ps) zero = refl
passed_at heard (p ∷ ps) (suc k) = passed_at heard ps k
