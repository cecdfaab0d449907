use Rattle.std.proofs.Common.{◌≡◌, ◌≤◌, not, ◌&&◌}
use Rattle.std.specs.Prelude.{◌==◌}
use Rattle.node_grid.specs.NodeSet.{ids_below, has_id}
use Rattle.node_grid.specs.Count.{count}
use Rattle.fault_classes.specs.Change.{is_manifest}
use Rattle.fault_classes.specs.Line.{effect_at}
use Rattle.fault_classes.proofs.standing.PeriodLines.recovers.Given as goal

abbrev pub invariant-loop-other : goal.invariant-loop-other
invariant-loop-other g l = record {
  counted : l.strays ≡ count (λ j. not (j == l.node) && (not (has_id l.good j) && not (is_manifest (effect_at l.self.index.now.lines l.self.period 0 j l.node)))) (ids_below l.other);
  few : l.strays ≤ l.other;
}
