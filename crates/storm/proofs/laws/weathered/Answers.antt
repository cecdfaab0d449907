use Rattle.storm.proofs.Periods.{storm_law}
use Rattle.storm.proofs.laws.weathered.Goals as goal

pub returns : goal.returns
returns c = storm_law c.reception.ensures c.start.ensures c.step.ensures c.spared.ensures
