use Rattle.std.proofs.Common.{ℕ, ◌≡◌, ◌++◌, true}
use Rattle.node_grid.specs.NodeSet.{has_id}
use Rattle.odd_relays.specs.Telling.{telling}
use Rattle.odd_relays.specs.Direct.{direct_heard}
use Rattle.odd_relays.proofs.item.Item.have_heard.Given as goal

abbrev pub invariant-loop-k : goal.invariant-loop-k
invariant-loop-k g l = record {
  can : (goal.iterator-loop-k g).can_next l.k-iterator;
  ends : (goal.iterator-loop-k g).is_finite l.k-iterator;
  split : l.nodes ≡ l.yielded ++ l.k-iterator;
  same : (k : ℕ) → has_id l.yielded k ≡ true → direct_heard (telling g.S.Relays.says l.self) k l.path ≡ l.value;
}
