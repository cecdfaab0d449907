use Rattle.std.proofs.Common.{ℕ, ◌≡◌, ◌++◌, true, length, slice_index_or}
use Rattle.node_grid.specs.NodeSet.{has_id}
use Rattle.odd_relays.specs.Telling.{telling}
use Rattle.odd_relays.specs.Work.{IsLedBy}
use Rattle.odd_relays.proofs.item.Item.find_leaders.Given as goal

abbrev pub invariant-loop-i : goal.invariant-loop-i
invariant-loop-i g l = record {
  can : (goal.iterator-loop-i g).can_next l.i-iterator;
  ends : (goal.iterator-loop-i g).is_finite l.i-iterator;
  split : l.nodes ≡ l.yielded ++ l.i-iterator;
  places : length l.leader_of ≡ g.row.N;
  within : (j : ℕ) → has_id l.leaders j ≡ true → has_id l.yielded j ≡ true;
  led : (i : ℕ) → has_id l.yielded i ≡ true → IsLedBy (telling g.S.Relays.says l.self) l.leaders i (slice_index_or l.leader_of i 0);
}
