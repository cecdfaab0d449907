use Rattle.std.proofs.Common.{◌≡◌, ◌≤◌}
use Rattle.storm_sum.specs.Summary.{lost}
use Rattle.storm_sum.proofs.sums.lost.Given as goal

abbrev pub invariant-loop-node : goal.invariant-loop-node
invariant-loop-node l = record { counted : l.lost ≡ lost l.node l.before l.after; few : l.lost ≤ l.node }
