-- Lemmas for callers: the record of a node in use, among the records of all nodes of a period; and what a record shows besides frames.
use Rattle.std.proofs.Common.{◌≡◌, ◌<◌, ℕ, Bool, true, false, Some, map, ap, ◌∙◌, arith}
use Rattle.std.specs.Prelude.{slice_get}
use Rattle.std.proofs.lemmas.Option.{slice_get-get_or}
use Rattle.std.proofs.lemmas.List.FromFn.{get_or-map-range_with_len, length-map-range_with_len}
use Rattle.node_grid.specs.NodeSet.{ids_below}
use Rattle.node_steps.specs.Outcome.{Outcome}
use Rattle.cluster_periods.specs.Record.{PeriodView, without_frames, Shows}

pub recorded : (f : ℕ → Outcome) (nodes i : ℕ) → i < nodes → slice_get (map f (ids_below nodes)) i ≡ Some (f i)
recorded f nodes i low =
    slice_get-get_or (map f (ids_below nodes)) i (f i) (omega (arith, low, length-map-range_with_len f 0 nodes))
    ∙ ap Some (get_or-map-range_with_len f 0 nodes i i (f i) low (omega arith))

-- a record shows the same besides frames, whether or not it shows them
pub shows_rest : (frames : Bool) (t r : PeriodView) → Shows frames t r → without_frames t ≡ without_frames r
shows_rest true t r e = ap without_frames e
shows_rest false t r e = e
