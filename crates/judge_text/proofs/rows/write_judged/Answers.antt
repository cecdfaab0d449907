use Rattle.run_print.proofs.Joining.{then, finished}
use Rattle.judge_text.proofs.rows.write_judged.Goals as goal

pub returns : goal.returns
returns g c = finished c.new-printer.ensures.gathered c.new-printer.ensures.failed (then (then c.run.ensures c.illnesses.ensures) c.skews.ensures) c.finish.ensures
