use Rattle.std.proofs.Common.{ℕ, ◌≡◌, ◌+◌, ◌++◌, true}
use Rattle.node_grid.specs.NodeSet.{has_id}
use Rattle.settled_paths.specs.Passing.{HearAlike}
use Rattle.settled_paths.proofs.exchange.Exchange.alike.Given as goal

abbrev pub invariant-loop-i : goal.invariant-loop-i
invariant-loop-i g l = record {
  can : (goal.iterator-loop-i g).can_next l.i-iterator;
  ends : (goal.iterator-loop-i g).is_finite l.i-iterator;
  split : l.nodes ≡ l.yielded ++ l.i-iterator;
  first : has_id l.yielded l.first ≡ true → has_id l.alike l.first ≡ true;
  within : (k : ℕ) → has_id l.alike k ≡ true → has_id l.nodes k ≡ true;
  alike : (k : ℕ) → has_id l.alike k ≡ true → HearAlike (g.T.Touched.says l.touched) l.first k (l.self.rounds + 1);
}
