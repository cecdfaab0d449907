-- What comes of changed frames, and of two relay rounds, by computation.
use Rattle.std.proofs.Common.{◌≡◌, [], ◌∷◌, map, replicate, Some, None, refl}
use Rattle.std.specs.Prelude.{slice_index_or}
use Rattle.node_grid.specs.declared.class.Class.TheVariants.{N, S}
use Rattle.protocol.specs.Run.{deliveries}
use Rattle.worked_runs.specs.Systems.{two_of_five_colluding, malformed, forged_row}
use Rattle.worked_runs.specs.Shown.{of_all, class_in, counts_after, rows_in}
use Rattle.worked_runs.proofs.Opened.{opened}

pub what_is_cut_doubled_or_raw_is_malformed-cut : deliveries malformed 0 1 0 1 ≡ (15, 77 ∷ 70 ∷ 1 ∷ 2 ∷ 0 ∷ 0 ∷ 0 ∷ 0 ∷ 0 ∷ 1 ∷ 0 ∷ 0 ∷ 0 ∷ []) ∷ []
unfolding opened
what_is_cut_doubled_or_raw_is_malformed-cut = refl

pub what_is_cut_doubled_or_raw_is_malformed-twice : deliveries malformed 0 1 1 0 ≡ (15, 77 ∷ 70 ∷ 1 ∷ 2 ∷ 0 ∷ 0 ∷ 0 ∷ 0 ∷ 1 ∷ 1 ∷ 0 ∷ 0 ∷ 0 ∷ 1 ∷ 255 ∷ []) ∷ (15, 77 ∷ 70 ∷ 1 ∷ 2 ∷ 0 ∷ 0 ∷ 0 ∷ 0 ∷ 1 ∷ 1 ∷ 0 ∷ 0 ∷ 0 ∷ 1 ∷ 255 ∷ []) ∷ []
unfolding opened
what_is_cut_doubled_or_raw_is_malformed-twice = refl

pub what_is_cut_doubled_or_raw_is_malformed-raw : deliveries malformed 0 2 2 0 ≡ (15, 7 ∷ 8 ∷ 9 ∷ []) ∷ []
unfolding opened
what_is_cut_doubled_or_raw_is_malformed-raw = refl

pub what_is_cut_doubled_or_raw_is_malformed-rows : of_all malformed (rows_in malformed 0) ≡ replicate 3 (Some (0 ∷ 2 ∷ 2 ∷ []) ∷ Some (2 ∷ 0 ∷ 2 ∷ []) ∷ Some (2 ∷ 2 ∷ 0 ∷ []) ∷ [])
unfolding opened
what_is_cut_doubled_or_raw_is_malformed-rows = refl

pub what_is_cut_doubled_or_raw_is_malformed-counts : of_all malformed (counts_after malformed 0) ≡ replicate 3 (5 ∷ 5 ∷ 5 ∷ [])
unfolding opened
what_is_cut_doubled_or_raw_is_malformed-counts = refl

pub a_raw_frame_is_read_as_one-rows : map (λ r. slice_index_or r 2 None) (of_all forged_row (rows_in forged_row 0)) ≡ Some (0 ∷ 5 ∷ 0 ∷ []) ∷ Some (0 ∷ 5 ∷ 0 ∷ []) ∷ Some (0 ∷ 0 ∷ 0 ∷ []) ∷ []
unfolding opened
a_raw_frame_is_read_as_one-rows = refl

pub a_raw_frame_is_read_as_one-classes : of_all forged_row (class_in forged_row 0) ≡ N ∷ N ∷ S ∷ []
unfolding opened
a_raw_frame_is_read_as_one-classes = refl

pub two_rounds_settle_what_one_would_not : map (λ i. slice_index_or (rows_in two_of_five_colluding 0 i) 4 None) (0 ∷ 2 ∷ []) ≡ None ∷ None ∷ []
unfolding opened
two_rounds_settle_what_one_would_not = refl
