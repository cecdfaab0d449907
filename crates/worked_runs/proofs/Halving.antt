-- Own values and votes of a state channel over several periods, by computation.
use Rattle.std.proofs.Common.{◌≡◌, [], ◌∷◌, map, pos, refl}
use Rattle.std.specs.Prelude.{neg_ℤ}
use Rattle.node_grid.specs.declared.class.Class.TheVariants.{N, A}
use Rattle.safety.specs.Convergence.{halved}
use Rattle.worked_runs.specs.Systems.{starts_apart}
use Rattle.worked_runs.specs.Shown.{of_all, class_in, own_value_in}
use Rattle.worked_runs.proofs.Opened.{opened}

pub starts_apart-classes : of_all starts_apart (class_in starts_apart 2) ≡ N ∷ N ∷ N ∷ A ∷ []
unfolding opened
starts_apart-classes = refl

pub starts_apart-owns : map (λ p. own_value_in starts_apart p 0) (0 ∷ 1 ∷ 2 ∷ []) ≡ pos 0 ∷ pos 0 ∷ pos 0 ∷ []
unfolding opened
starts_apart-owns = refl

pub starts_apart-others : map (λ p. own_value_in starts_apart p 2) (0 ∷ 1 ∷ 2 ∷ []) ≡ neg_ℤ (pos 7) ∷ neg_ℤ (pos 4) ∷ neg_ℤ (pos 2) ∷ []
unfolding opened
starts_apart-others = refl

pub starts_apart-bounds : map (λ p. halved p 7) (0 ∷ 1 ∷ 2 ∷ []) ≡ 7 ∷ 4 ∷ 2 ∷ []
unfolding halved
starts_apart-bounds = refl
