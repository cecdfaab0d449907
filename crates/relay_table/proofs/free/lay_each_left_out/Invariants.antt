use Rattle.std.proofs.Common.{◌≡◌, ◌+◌, ◌++◌, map, length}
use Rattle.node_grid.specs.NodeSet.{without_id}
use Rattle.relay_walk.specs.Laid.{laid}
use Rattle.relay_table.proofs.free.lay_each_left_out.Given as goal

abbrev pub invariant-loop-member : goal.invariant-loop-member
invariant-loop-member g l = record {
  can : (goal.iterator-loop-member g).can_next l.member-iterator;
  ends : (goal.iterator-loop-member g).is_finite l.member-iterator;
  split : l.set ≡ l.yielded ++ l.member-iterator;
  sets : l.sets ≡ laid l.at (map (without_id l.set) l.yielded) l.initial.sets;
  long : length l.sets ≡ length l.initial.sets;
  end : l.end ≡ l.at + length l.yielded;
}
