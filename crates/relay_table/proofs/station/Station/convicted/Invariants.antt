use Rattle.std.proofs.Common.{ℕ, ◌≡◌, ◌<◌, ◌++◌, ◌&&◌, map}
use Rattle.node_grid.specs.NodeSet.{has_id, IsIdSet}
use Rattle.omh.specs.Omh.{Ear}
use Rattle.equivocation.specs.Conviction.{convicts}
use Rattle.relay_terms.specs.Terms.{said}
use Rattle.relay_table.specs.Settling.{IsHeardBy}
use Rattle.relay_table.proofs.station.Station.convicted.Given as goal

abbrev pub invariant-loop-node : goal.invariant-loop-node
invariant-loop-node g l = record {
  can : (goal.iterator-loop-node g).can_next l.node-iterator;
  ends : (goal.iterator-loop-node g).is_finite l.node-iterator;
  split : l.self.others ≡ l.yielded ++ l.node-iterator;
  ids : IsIdSet g.row.N l.guilty;
  told : (x : Ear g.row.V.Denot) → IsHeardBy l.self (map said l.heard) x → (q : ℕ) → q < g.row.N → has_id l.guilty q ≡ (has_id l.yielded q && convicts g.V.PartialEq.eq x q);
}
