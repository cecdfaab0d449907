use Rattle.std.proofs.Common.{◌≡◌, ℕ, ◌<◌, length, slice_index_or}
use Rattle.node_grid.specs.NodeSet.{ids_where}
use Rattle.fault_classes.specs.declared.standing.Standing.{Standing}
use Rattle.fault_classes.specs.Plan.{sound_before}
use Rattle.fault_classes.specs.Standing.{IsStanding}
use Rattle.fault_classes.proofs.standing.standings_of.Given as goal

abbrev pub invariant-loop-period : goal.invariant-loop-period
invariant-loop-period g l = record {
  before : l.before ≡ ids_where (sound_before l.index l.period) l.index.nodes;
  long : length l.standings.items ≡ l.period;
  each : (p : ℕ) (d : Standing g.row.N) → p < l.period → IsStanding l.index p (slice_index_or l.standings.items p d);
}
