use Rattle.run_print.proofs.Joining.{then}
use Rattle.judge_text.proofs.rows.course.Goals as goal

pub returns : goal.returns
returns g c = then (then (then (then c.period.ensures c.period-2.ensures) c.period-3.ensures) c.period-4.ensures) c.number.ensures
