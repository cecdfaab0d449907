use Rattle.run_print.proofs.Joining.{finished}
use Rattle.run_print.proofs.shown.write_shown.Goals as goal

pub returns : goal.returns
returns g c = finished c.new-printer.ensures.gathered c.new-printer.ensures.failed c.shown_period.ensures c.finish.ensures
