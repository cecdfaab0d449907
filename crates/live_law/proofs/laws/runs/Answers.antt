use Rattle.live_law.proofs.LiveAsRun.{live_run_law}
use Rattle.live_law.proofs.laws.runs.Goals as goal

pub returns : goal.returns
returns c = live_run_law c.period.ensures c.delivery.ensures c.saying.ensures
