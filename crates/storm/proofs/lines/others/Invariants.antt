use Rattle.std.proofs.Common.{◌≡◌, ◌++◌, map, pos}
use Rattle.storm.proofs.Steps.{left}
use Rattle.storm.proofs.lines.others.Given as goal

abbrev pub invariant-loop-node : goal.invariant-loop-node
invariant-loop-node l = l.numbers.items ++ map pos (left l.spell.node l.node) ≡ map pos (left l.spell.node 0)
