use Rattle.run_print.proofs.Joining.{then}
use Rattle.judge_text.proofs.rows.onset.Goals as goal

pub returns : goal.returns
returns g c = then (then (then (then (then c.number.ensures c.number-2.ensures) c.class.ensures) c.class-2.ensures) c.number-3.ensures) c.whether.ensures
