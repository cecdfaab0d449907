use Rattle.at_once.proofs.Voting.{AreOwned}
use Rattle.at_once.proofs.period.Period.value_all.Given as goal

abbrev pub invariant-loop-i : goal.invariant-loop-i
invariant-loop-i g l = AreOwned l.self.scenario.now l.self.number l.votes l.fn.owns l.i l.owns
