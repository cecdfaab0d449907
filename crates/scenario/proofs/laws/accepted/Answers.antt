use Rattle.scenario.proofs.Unrefused.{unrefused_is}
use Rattle.scenario.proofs.laws.accepted.Goals as goal

pub returns : goal.returns
returns c = λ capacity p room h. unrefused_is capacity p room h
