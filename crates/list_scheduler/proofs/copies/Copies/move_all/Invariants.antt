use Rattle.std.proofs.Common.{◌≡◌}
use Rattle.std.specs.Prelude.{is_some}
use Rattle.node_grid.specs.NodeSet.{ids_below, ids_where}
use Rattle.list_scheduler.specs.Copies.{table, works_among}
use Rattle.list_scheduler.specs.ByTask.{moved}
use Rattle.list_scheduler.proofs.Moving.{moved_below}
use Rattle.list_scheduler.proofs.copies.Copies.move_all.Given as goal

abbrev pub invariant-loop-t : goal.invariant-loop-t
invariant-loop-t g l = record {
  copies : l.self ≡ table g.row.N (moved_below l.t l.graph l.before l.after l.fn.self l.claims);
  busy : l.busy ≡ ids_where (λ q. is_some (works_among (table g.row.N (moved l.graph l.before l.after l.fn.self l.claims)) q (ids_below l.t))) g.row.N;
}
