use Rattle.std.proofs.lemmas.Result.{IfOk-from_err}
use Rattle.storm.proofs.cluster.tasks.Goals as goal

pub returns-in_err-push : goal.returns-in_err-push
returns-in_err-push c = IfOk-from_err c.from_residual.result _ c.from_residual.ensures.0

pub returns-in_err-push-2 : goal.returns-in_err-push-2
returns-in_err-push-2 c = IfOk-from_err c.from_residual-in_err-push-2.result _ c.from_residual-in_err-push-2.ensures.0

pub returns-in_err-push-3 : goal.returns-in_err-push-3
returns-in_err-push-3 c = IfOk-from_err c.from_residual-in_err-push-3.result _ c.from_residual-in_err-push-3.ensures.0

pub returns-in_err-push-4 : goal.returns-in_err-push-4
returns-in_err-push-4 c = IfOk-from_err c.from_residual-in_err-push-4.result _ c.from_residual-in_err-push-4.ensures.0

pub returns-in_err-push-5 : goal.returns-in_err-push-5
returns-in_err-push-5 c = IfOk-from_err c.from_residual-in_err-push-5.result _ c.from_residual-in_err-push-5.ensures.0

pub returns-in_err-push-6 : goal.returns-in_err-push-6
returns-in_err-push-6 c = IfOk-from_err c.from_residual-in_err-push-6.result _ c.from_residual-in_err-push-6.ensures.0
