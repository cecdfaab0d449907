use Rattle.run_print.proofs.Joining.{then}
use Rattle.judge_text.proofs.rows.scenario.Goals as goal

pub returns : goal.returns
returns g c = then c.number.ensures (then c.number-2.ensures (then c.number-3.ensures (then c.number-4.ensures c.number-5.ensures)))
