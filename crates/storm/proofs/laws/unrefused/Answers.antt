use Rattle.storm.proofs.Refusals.{unrefused_law}
use Rattle.storm.proofs.laws.unrefused.Goals as goal

pub returns : goal.returns
returns c = unrefused_law
