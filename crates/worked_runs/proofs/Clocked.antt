-- Corrections of clocks, by computation.
use Rattle.std.proofs.Common.{◌≡◌, [], ◌∷◌, map, pos, refl}
use Rattle.std.specs.Prelude.{neg_ℤ}
use Rattle.node_grid.specs.declared.class.Class.TheVariants.{N, A}
use Rattle.protocol.specs.View.{Mode}
use Rattle.worked_runs.specs.Systems.{no_state_of_3, two_faced_clock, restarting, drifting_clocks}
use Rattle.worked_runs.specs.Shown.{of_all, class_in, mode_in, sync_in, correction_in, offset_after}
use Rattle.worked_runs.proofs.Opened.{opened}

pub clocks_are_corrected_beside_a_liar-classes : of_all no_state_of_3 (class_in no_state_of_3 0) ≡ N ∷ N ∷ N ∷ A ∷ []
unfolding opened
clocks_are_corrected_beside_a_liar-classes = refl

pub clocks_are_corrected_beside_a_liar-sync : of_all no_state_of_3 (sync_in no_state_of_3 0) ≡ (1 ∷ 2 ∷ []) ∷ (0 ∷ 2 ∷ 3 ∷ []) ∷ (0 ∷ 1 ∷ 3 ∷ []) ∷ (0 ∷ 1 ∷ 2 ∷ []) ∷ []
unfolding opened
clocks_are_corrected_beside_a_liar-sync = refl

pub clocks_are_corrected_beside_a_liar-corrections : of_all no_state_of_3 (correction_in no_state_of_3 two_faced_clock 0) ≡ pos 4 ∷ pos 2 ∷ neg_ℤ (pos 6) ∷ pos 2 ∷ []
unfolding opened
clocks_are_corrected_beside_a_liar-corrections = refl

pub clocks_are_corrected_beside_a_liar-offsets : of_all no_state_of_3 (offset_after no_state_of_3 two_faced_clock 0) ≡ pos 4 ∷ pos 6 ∷ pos 2 ∷ pos 2 ∷ []
unfolding opened
clocks_are_corrected_beside_a_liar-offsets = refl

pub a_joining_node_corrects_without_its_own_clock-modes : map (λ p. mode_in restarting p 2) (0 ∷ 1 ∷ []) ≡ Mode.Full ∷ Mode.Joining ∷ []
unfolding opened
a_joining_node_corrects_without_its_own_clock-modes = refl

pub a_joining_node_corrects_without_its_own_clock-sync : of_all restarting (sync_in restarting 1) ≡ (1 ∷ []) ∷ (0 ∷ []) ∷ (0 ∷ 1 ∷ []) ∷ []
unfolding opened
a_joining_node_corrects_without_its_own_clock-sync = refl

pub a_joining_node_corrects_without_its_own_clock-corrections : map (λ p. of_all restarting (correction_in restarting drifting_clocks p)) (0 ∷ 1 ∷ []) ≡ (pos 4 ∷ pos 0 ∷ neg_ℤ (pos 17) ∷ []) ∷ (pos 1 ∷ pos 0 ∷ neg_ℤ (pos 1) ∷ []) ∷ []
unfolding opened
a_joining_node_corrects_without_its_own_clock-corrections = refl

pub a_joining_node_corrects_without_its_own_clock-offsets : map (λ p. of_all restarting (offset_after restarting drifting_clocks p)) (0 ∷ 1 ∷ []) ≡ (pos 5 ∷ pos 6 ∷ pos 6 ∷ []) ∷ (pos 9 ∷ pos 8 ∷ pos 6 ∷ []) ∷ []
unfolding opened
a_joining_node_corrects_without_its_own_clock-offsets = refl
