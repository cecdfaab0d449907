use Rattle.std.proofs.Common.{◌≡◌, ◌≤◌, take, not}
use Rattle.node_grid.specs.Count.{count}
use Rattle.omh_paths.specs.Wrapped.{is_error, same}
use Rattle.omh_paths.proofs.voting.has_majority.Given as goal

abbrev pub invariant-loop-other : goal.invariant-loop-other
invariant-loop-other g l = record {
  votes : l.votes ≡ count (λ y. not (is_error y)) (take l.other-index l.values);
  support : l.support ≡ count (same g.V.PartialEq.eq l.value) (take l.other-index l.values);
  few_votes : l.votes ≤ l.other-index;
  few_support : l.support ≤ l.other-index;
}
