-- Clocks over several periods, by computation.
use Rattle.std.proofs.Common.{◌≡◌, ◌+◌, ◌-◌, [], ◌∷◌, map, pos, refl}
use Rattle.std.specs.Prelude.{neg_ℤ}
use Rattle.node_grid.specs.declared.class.Class.TheVariants.{N, A}
use Rattle.safety.specs.Convergence.{halved, settled_skew}
use Rattle.worked_runs.specs.Systems.{no_values_of_3, clocks_apart}
use Rattle.worked_runs.specs.Shown.{of_all, class_in, offset_after}
use Rattle.worked_runs.proofs.Opened.{opened}

pub no_values_of_3-classes : of_all no_values_of_3 (class_in no_values_of_3 1) ≡ N ∷ N ∷ N ∷ A ∷ []
unfolding opened
no_values_of_3-classes = refl

pub no_values_of_3-offsets : map (λ p. offset_after no_values_of_3 clocks_apart p 0) (0 ∷ 1 ∷ []) ≡ pos 3 ∷ pos 6 ∷ []
unfolding opened
no_values_of_3-offsets = refl

pub no_values_of_3-others : map (λ p. offset_after no_values_of_3 clocks_apart p 2) (0 ∷ 1 ∷ []) ≡ neg_ℤ (pos 20) ∷ neg_ℤ (pos 9) ∷ []
unfolding opened
no_values_of_3-others = refl

pub no_values_of_3-bounds : map (λ k. halved k (40 - settled_skew clocks_apart) + settled_skew clocks_apart) (0 ∷ 1 ∷ 2 ∷ []) ≡ 40 ∷ 23 ∷ 15 ∷ []
unfolding halved
no_values_of_3-bounds = refl
