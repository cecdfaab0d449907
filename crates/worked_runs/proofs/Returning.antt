-- A node that comes back, by computation.
use Rattle.std.proofs.Common.{◌≡◌, [], ◌∷◌, map, Some, None, refl}
use Rattle.node_grid.specs.declared.class.Class.TheVariants.{N, J}
use Rattle.safety.specs.Lifetime.{streaks_needed}
use Rattle.worked_runs.specs.Systems.{restarted_and_well}
use Rattle.worked_runs.specs.Shown.{class_in, members_after, counts_after, rows_in}
use Rattle.worked_runs.proofs.Opened.{opened}

pub restarted_and_well-classes : map (λ p. class_in restarted_and_well p 2) (0 ∷ 1 ∷ 2 ∷ 3 ∷ []) ≡ J ∷ N ∷ N ∷ N ∷ []
unfolding opened
restarted_and_well-classes = refl

pub restarted_and_well-rows : map (λ p. rows_in restarted_and_well p 0) (0 ∷ 1 ∷ 2 ∷ 3 ∷ []) ≡ (Some (0 ∷ 0 ∷ 8 ∷ []) ∷ Some (0 ∷ 0 ∷ 8 ∷ []) ∷ None ∷ []) ∷ (Some (0 ∷ 0 ∷ 8 ∷ []) ∷ Some (0 ∷ 0 ∷ 8 ∷ []) ∷ Some (0 ∷ 0 ∷ 0 ∷ []) ∷ [])
    ∷ (Some (0 ∷ 0 ∷ 0 ∷ []) ∷ Some (0 ∷ 0 ∷ 0 ∷ []) ∷ None ∷ []) ∷ (Some (0 ∷ 0 ∷ 0 ∷ []) ∷ Some (0 ∷ 0 ∷ 0 ∷ []) ∷ None ∷ []) ∷ []
unfolding opened
restarted_and_well-rows = refl

pub restarted_and_well-counts : map (λ p. counts_after restarted_and_well p 0) (0 ∷ 1 ∷ 2 ∷ 3 ∷ []) ≡ (0 ∷ 0 ∷ 2 ∷ []) ∷ (0 ∷ 0 ∷ 4 ∷ []) ∷ (0 ∷ 0 ∷ 2 ∷ []) ∷ (0 ∷ 0 ∷ 0 ∷ []) ∷ []
unfolding opened
restarted_and_well-counts = refl

pub restarted_and_well-members : map (λ p. members_after restarted_and_well p 0) (0 ∷ 1 ∷ 2 ∷ 3 ∷ []) ≡ (0 ∷ 1 ∷ 2 ∷ []) ∷ (0 ∷ 1 ∷ []) ∷ (0 ∷ 1 ∷ []) ∷ (0 ∷ 1 ∷ 2 ∷ []) ∷ []
unfolding opened
restarted_and_well-members = refl

pub restarted_and_well-day : streaks_needed 2 1 4 ≡ 2
restarted_and_well-day = refl
