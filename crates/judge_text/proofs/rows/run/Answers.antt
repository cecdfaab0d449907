use Rattle.run_print.proofs.Joining.{then}
use Rattle.judge_text.proofs.rows.run.Goals as goal

pub returns : goal.returns
returns g c = then (then (then (then c.labelled.ensures c.text.ensures) c.scenario.ensures) c.outcome.ensures) c.text-2.ensures
