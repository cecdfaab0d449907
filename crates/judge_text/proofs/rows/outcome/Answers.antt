use Rattle.run_print.proofs.Joining.{then}
use Rattle.judge_text.proofs.rows.outcome.Goals as goal

pub returns : goal.returns
returns g c =
    then (then (then (then (then (then (then c.number.ensures c.loss.ensures) c.signed.ensures) c.number-2.ensures) c.number-3.ensures) c.number-4.ensures) c.maybe.ensures) c.maybe-2.ensures
