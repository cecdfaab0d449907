use Rattle.at_once.proofs.Beginnings.{AreBeginning}
use Rattle.at_once.proofs.period.Period.begin.Given as goal

abbrev pub invariant-loop-i : goal.invariant-loop-i
invariant-loop-i g l = AreBeginning l.self.scenario.now l.self.number l.fn.states l.fn.keeping l.i l.states l.keeping
