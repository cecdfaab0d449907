use Rattle.live_node.proofs.Told.{AreNumbers}
use Rattle.live_node.proofs.correcting.told_numbers.Given as goal

abbrev pub invariant-loop-node : goal.invariant-loop-node
invariant-loop-node g l = AreNumbers g.row.N l.ahead l.node l.numbers
