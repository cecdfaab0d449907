use Rattle.std.proofs.Common.{◌≡◌, ◌+◌, ◌≤◌, ◌&&◌, ◌++◌, not, map, length, vec_capacity}
use Rattle.node_grid.specs.NodeSet.{ids_where, has_id}
use Rattle.run_judged.specs.Found.{sign_by}
use Rattle.run_judged.specs.Growing.{begun}
use Rattle.run_judged.proofs.illnesses.Illnesses.begin.Given as goal

abbrev pub invariant-loop-node : goal.invariant-loop-node
invariant-loop-node g l = record {
  list : l.self.list.items ≡ l.fn.self.list.items ++ map (λ j. begun l.findings.period j (sign_by l.findings j)) (ids_where (λ j. has_id l.fn.self.sound j && not (has_id l.findings.sound j)) l.node);
  sound : l.self.sound ≡ l.fn.self.sound;
  few : length l.self.list.items ≤ length l.fn.self.list.items + l.node;
  room : vec_capacity l.fn.self.list ≤ vec_capacity l.self.list;
}
