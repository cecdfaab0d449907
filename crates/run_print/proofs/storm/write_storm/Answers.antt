use Rattle.run_print.proofs.Joining.{then, finished}
use Rattle.run_print.proofs.storm.write_storm.Goals as goal

pub returns : goal.returns
returns g c = finished c.new-printer.ensures.gathered c.new-printer.ensures.failed (then c.sums.ensures c.outcome.ensures) c.finish.ensures
