use Rattle.std.proofs.Common.{◌≡◌, ◌++◌}
use Rattle.list_scheduler.specs.Copies.{table, IsCopies}
use Rattle.list_scheduler.specs.Schedule.{completed}
use Rattle.list_scheduler.specs.OneNode.{verdicts}
use Rattle.list_scheduler.proofs.copies.Copies.complete.Given as goal

abbrev pub invariant-loop-node : goal.invariant-loop-node
invariant-loop-node g l = record {
  can : (goal.iterator-loop-node g).can_next l.node-iterator;
  ends : (goal.iterator-loop-node g).is_finite l.node-iterator;
  split : l.members ≡ l.yielded ++ l.node-iterator;
  copies : l.self ≡ table g.row.N (completed l.graph l.yielded l.fn.self l.claims);
  kept : IsCopies l.graph l.self;
  verdicts : l.verdicts ≡ verdicts g.row.N l.graph l.yielded l.fn.self l.claims;
}
