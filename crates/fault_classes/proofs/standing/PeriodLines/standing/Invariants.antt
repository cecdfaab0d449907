use Rattle.std.proofs.Common.{◌≡◌, ℕ, ◌<◌, length, slice_index_or}
use Rattle.node_grid.specs.declared.class.Class.TheVariants.{A}
use Rattle.fault_classes.specs.Plan.{class_of}
use Rattle.fault_classes.proofs.standing.PeriodLines.standing.Given as goal

abbrev pub invariant-loop-node : goal.invariant-loop-node
invariant-loop-node g l = record {
  long : length l.classes ≡ g.row.N;
  classed : (j : ℕ) → j < l.node → slice_index_or l.classes j A ≡ class_of l.self.index.now l.self.period j;
}
