use Rattle.node_steps.proofs.Lives.{life}
use Rattle.node_steps.proofs.laws.life.Goals as goal

pub returns : goal.returns
returns c = life c.period.ensures
