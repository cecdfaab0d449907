use Rattle.storm.specs.Storm.{lies_drawn}
use Rattle.storm.proofs.Steps.{GoesOn}
use Rattle.storm.proofs.drawing.push_mixed.Given as goal

abbrev pub invariant-loop-receiver : goal.invariant-loop-receiver
invariant-loop-receiver l = GoesOn l.fn.faults.items l.faults.items l.fn.generator l.generator (lies_drawn l.spell) l.spell.node l.receiver
