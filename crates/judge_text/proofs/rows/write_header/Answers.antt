use Rattle.run_print.proofs.Joining.{then, finished}
use Rattle.judge_text.proofs.rows.write_header.Goals as goal

pub returns : goal.returns
returns g c = finished c.new-printer.ensures.gathered c.new-printer.ensures.failed (then (then (then c.text.ensures c.text-2.ensures) c.text-3.ensures) c.text-4.ensures) c.finish.ensures
