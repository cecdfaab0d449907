use Rattle.run_print.proofs.Joining.{then, finished}
use Rattle.judge_text.proofs.rows.write_refused.Goals as goal

pub returns : goal.returns
returns g c =
    finished c.new-printer.ensures.gathered c.new-printer.ensures.failed
    (then (then (then (then c.labelled.ensures c.text.ensures) c.number.ensures) c.number-2.ensures) c.text-2.ensures) c.finish.ensures
