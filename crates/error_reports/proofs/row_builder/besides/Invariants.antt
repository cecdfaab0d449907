use Rattle.std.proofs.Common.{ℕ, Option, ◌||◌}
use Rattle.node_grid.specs.NodeSet.{ids_where, mask_of}
use Rattle.error_reports.specs.Charge.{accuses}
use Rattle.error_reports.specs.Notes.{is_kind, GivesKinds}
use Rattle.error_reports.proofs.Filling.{Filled, noted_of}
use Rattle.error_reports.proofs.row_builder.besides.Given as goal

abbrev pub invariant-loop-j : goal.invariant-loop-j
invariant-loop-j g l =
    (gives : ℕ → Option ℕ) → GivesKinds (goal.F-post g l.kind_of) g.row.N l.nodes l.me gives
    → Filled g.row.N (noted_of l.nodes l.me (λ j. mask_of (ids_where (λ k. accuses l.row j k || is_kind (gives j) k) l.kinds))) l.j l.masks
