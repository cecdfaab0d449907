-- Nodes that leave after several periods of faults, by computation.
use Rattle.std.proofs.Common.{zero, suc, ◌≡◌, [], ◌∷◌, map, Some, None, refl, arith}
use Rattle.node_grid.specs.declared.class.Class.TheVariants.{J, B, S}
use Rattle.protocol.specs.Run.{run, classes}
use Rattle.protocol.specs.Safe.{KeepsBound, Claim}
use Rattle.worked_runs.specs.Systems.{silent_on_end, seen_alike}
use Rattle.worked_runs.specs.Shown.{class_in, members_after, counts_after, rows_in}
use Rattle.worked_runs.proofs.Opened.{opened}

pub silent_on_end-classes : map (λ p. class_in silent_on_end p 2) (0 ∷ 1 ∷ 2 ∷ []) ≡ B ∷ B ∷ B ∷ []
unfolding opened
silent_on_end-classes = refl

pub silent_on_end-counts : map (λ p. counts_after silent_on_end p 0) (0 ∷ 1 ∷ 2 ∷ []) ≡ (0 ∷ 0 ∷ 3 ∷ []) ∷ (0 ∷ 0 ∷ 6 ∷ []) ∷ (0 ∷ 0 ∷ 9 ∷ []) ∷ []
unfolding opened
silent_on_end-counts = refl

pub silent_on_end-members : map (λ p. members_after silent_on_end p 0) (0 ∷ 1 ∷ 2 ∷ []) ≡ (0 ∷ 1 ∷ 2 ∷ []) ∷ (0 ∷ 1 ∷ 2 ∷ []) ∷ (0 ∷ 1 ∷ []) ∷ []
unfolding opened
silent_on_end-members = refl

silent_on_end-within_0 : KeepsBound (run silent_on_end) (classes silent_on_end) 0
unfolding opened
silent_on_end-within_0 = record { enough = omega arith; few = omega arith }

silent_on_end-within_1 : KeepsBound (run silent_on_end) (classes silent_on_end) 1
unfolding opened
silent_on_end-within_1 = record { enough = omega arith; few = omega arith }

silent_on_end-within_2 : KeepsBound (run silent_on_end) (classes silent_on_end) 2
unfolding opened
silent_on_end-within_2 = record { enough = omega arith; few = omega arith }

pub silent_on_end-claimed : Claim (run silent_on_end) (classes silent_on_end) 2
silent_on_end-claimed zero h = silent_on_end-within_0
silent_on_end-claimed (suc zero) h = silent_on_end-within_1
silent_on_end-claimed (suc (suc zero)) h = silent_on_end-within_2
silent_on_end-claimed (suc (suc (suc q))) h = absurd (omega arith)

pub seen_alike-classes : map (λ p. class_in seen_alike p 2) (0 ∷ 1 ∷ 2 ∷ []) ≡ S ∷ S ∷ J ∷ []
unfolding opened
seen_alike-classes = refl

pub seen_alike-rows : map (λ p. rows_in seen_alike p 0) (0 ∷ 1 ∷ 2 ∷ []) ≡ (Some (0 ∷ 0 ∷ 4 ∷ []) ∷ Some (0 ∷ 0 ∷ 4 ∷ []) ∷ Some (0 ∷ 0 ∷ 0 ∷ []) ∷ []) ∷ (Some (0 ∷ 0 ∷ 2 ∷ []) ∷ Some (0 ∷ 0 ∷ 2 ∷ []) ∷ Some (0 ∷ 0 ∷ 0 ∷ []) ∷ []) ∷ (Some (0 ∷ 0 ∷ 8 ∷ []) ∷ Some (0 ∷ 0 ∷ 8 ∷ []) ∷ None ∷ []) ∷ []
unfolding opened
seen_alike-rows = refl

pub seen_alike-members : map (λ p. members_after seen_alike p 0) (0 ∷ 1 ∷ 2 ∷ []) ≡ (0 ∷ 1 ∷ 2 ∷ []) ∷ (0 ∷ 1 ∷ 2 ∷ []) ∷ (0 ∷ 1 ∷ []) ∷ []
unfolding opened
seen_alike-members = refl
