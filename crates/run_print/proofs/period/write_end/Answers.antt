use Rattle.run_print.proofs.Joining.{finished}
use Rattle.run_print.proofs.period.write_end.Goals as goal

pub returns : goal.returns
returns g c = finished c.new-printer.ensures.gathered c.new-printer.ensures.failed c.end.ensures c.finish.ensures
