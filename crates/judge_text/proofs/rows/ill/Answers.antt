use Rattle.run_print.proofs.Joining.{then}
use Rattle.judge_text.proofs.rows.ill.Goals as goal

pub returns : goal.returns
returns g c = then (then (then c.labelled.ensures c.onset.ensures) c.course.ensures) c.text.ensures
