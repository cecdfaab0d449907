-- Votes of copies in their group, by computation.
use Rattle.std.proofs.Common.{◌≡◌, [], ◌∷◌, replicate, Some, pos, refl}
use Rattle.node_grid.specs.declared.class.Class.TheVariants.{N, S}
use Rattle.omh_paths.specs.declared.wrapped.Wrapped.TheVariants.{Plain}
use Rattle.worked_runs.specs.Systems.{three_copies, lying_copy}
use Rattle.worked_runs.specs.Shown.{of_all, class_in, done_in, vote_in, rows_in, counts_after, streaks_after}
use Rattle.worked_runs.proofs.Opened.{opened}

pub copies_are_voted_in_their_group-done : of_all (three_copies 0 []) (done_in (three_copies 0 []) 0) ≡ replicate 4 (Plain 0 ∷ Plain 0 ∷ Plain 0 ∷ Plain 255 ∷ [])
unfolding opened
copies_are_voted_in_their_group-done = refl

pub copies_are_voted_in_their_group-votes : of_all (three_copies 0 []) (vote_in (three_copies 0 []) 0) ≡ replicate 4 (Some (pos 11) ∷ [])
unfolding opened
copies_are_voted_in_their_group-votes = refl

pub copies_are_voted_in_their_group-rows : rows_in (three_copies 0 []) 0 0 ≡ replicate 4 (Some (replicate 4 0))
unfolding opened
copies_are_voted_in_their_group-rows = refl

pub copies_are_voted_in_their_group-counts : counts_after (three_copies 0 []) 0 0 ≡ replicate 4 0
unfolding opened
copies_are_voted_in_their_group-counts = refl

pub copies_are_voted_in_their_group-streaks : streaks_after (three_copies 0 []) 0 0 ≡ replicate 4 1
unfolding opened
copies_are_voted_in_their_group-streaks = refl

pub more_lies_trim_less : of_all (three_copies 1 []) (vote_in (three_copies 1 []) 0) ≡ replicate 4 (Some (pos 12) ∷ [])
unfolding opened
more_lies_trim_less = refl

pub a_lying_copy_is_not_reported-classes : of_all (three_copies 0 (lying_copy ∷ [])) (class_in (three_copies 0 (lying_copy ∷ [])) 0) ≡ N ∷ N ∷ S ∷ N ∷ []
unfolding opened
a_lying_copy_is_not_reported-classes = refl

pub a_lying_copy_is_not_reported-votes : of_all (three_copies 0 (lying_copy ∷ [])) (vote_in (three_copies 0 (lying_copy ∷ [])) 0) ≡ replicate 4 (Some (pos 11) ∷ [])
unfolding opened
a_lying_copy_is_not_reported-votes = refl

pub a_lying_copy_is_not_reported-rows : rows_in (three_copies 0 (lying_copy ∷ [])) 0 0 ≡ replicate 4 (Some (replicate 4 0))
unfolding opened
a_lying_copy_is_not_reported-rows = refl

pub a_lying_copy_is_not_reported-counts : counts_after (three_copies 0 (lying_copy ∷ [])) 0 0 ≡ replicate 4 0
unfolding opened
a_lying_copy_is_not_reported-counts = refl
