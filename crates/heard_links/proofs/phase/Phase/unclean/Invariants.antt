use Rattle.std.proofs.Common.{ℕ, ◌≡◌, ◌<◌, true, false}
use Rattle.node_grid.specs.NodeSet.{has_id}
use Rattle.fault_classes.specs.Plan.{is_clean}
use Rattle.heard_links.proofs.phase.Phase.unclean.Given as goal

abbrev pub invariant-loop-j : goal.invariant-loop-j
invariant-loop-j g l = record {
  clean : (k : ℕ) → k < l.j → has_id l.touched k ≡ false → is_clean l.self.plan.now l.self.period k ≡ true;
  used : (k : ℕ) → has_id l.touched k ≡ true → k < l.j;
}
