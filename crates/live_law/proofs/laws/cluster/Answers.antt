use Rattle.live_law.proofs.LiveLinked.{live_cluster_law}
use Rattle.live_law.proofs.laws.cluster.Goals as goal

pub returns : goal.returns
returns c = live_cluster_law c.period.ensures c.delivery.ensures c.saying.ensures
