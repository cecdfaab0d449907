use Rattle.run_judged.proofs.Founds.{left_some}
use Rattle.run_judged.proofs.findings.left_nodes.Goals as goal

pub returns-in-Some : goal.returns-in-Some
returns-in-Some g c = left_some c.args.before.now c.args.after.now _ c.minus.result c.in-Some.is c.minus.ensures
