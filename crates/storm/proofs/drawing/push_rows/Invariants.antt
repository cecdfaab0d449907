use Rattle.storm.specs.Storm.{told_row}
use Rattle.storm.proofs.Steps.{GoesOn}
use Rattle.storm.proofs.drawing.push_rows.Given as goal

abbrev pub invariant-loop-receiver : goal.invariant-loop-receiver
invariant-loop-receiver l = GoesOn l.fn.faults.items l.faults.items l.fn.generator l.generator (told_row l.spell) l.spell.node l.receiver
