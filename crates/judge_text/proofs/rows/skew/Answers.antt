use Rattle.run_print.proofs.Joining.{then}
use Rattle.judge_text.proofs.rows.skew.Goals as goal

pub returns : goal.returns
returns g c = then (then (then c.labelled.ensures c.number.ensures) c.number-2.ensures) c.text.ensures
