use Rattle.run_judged.proofs.Founds.{joined_by, not_empty}
use Rattle.run_judged.proofs.findings.joined_nodes.Goals as goal

pub returns-in-Some : goal.returns-in-Some
returns-in-Some g c = joined_by c.args.before.now c.args.after.now _ c.minus.result (not_empty c.is_empty.result c.args.before.now c.is_empty.ensures c.if-is_empty.false) c.in-Some.is c.minus.ensures
