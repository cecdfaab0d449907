-- The paths of what was heard.
use Rattle.std.proofs.Common.{ℕ, ◌≡◌, List, [], ◌∷◌, map, refl, ap}
use Rattle.omh_paths.specs.declared.wrapped.Wrapped.{Wrapped}
use Rattle.omh.specs.Heard.{entry}

pub paths_of_entries : {V : Type 0} (f : List ℕ → Wrapped V) (ps : List (List ℕ)) → map (λ e. e.path) (map (entry f) ps) ≡ ps
paths_of_entries f [] = refl
paths_of_entries f (p ∷ ps) = ap (λ (qs : List (List ℕ)). p ∷ qs) (paths_of_entries f ps)
