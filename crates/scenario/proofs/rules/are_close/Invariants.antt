use Rattle.scenario.proofs.Close.{IsSpread}
use Rattle.scenario.proofs.rules.are_close.Given as goal

abbrev pub invariant-loop-value : goal.invariant-loop-value
invariant-loop-value l = IsSpread l.values l.value-index l.least l.greatest
