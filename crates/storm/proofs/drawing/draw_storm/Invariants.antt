use Rattle.storm.proofs.Steps.{Storms}
use Rattle.storm.proofs.drawing.draw_storm.Given as goal

abbrev pub invariant-loop-k : goal.invariant-loop-k
invariant-loop-k l = Storms l.faults.items l.restarts.items l.generator l.seed l.k
