use Rattle.std.proofs.Common.{arith, lit<}
use Rattle.run_judged.proofs.findings.touched_nodes.Goals as goal

pub is_touched-requires : goal.is_touched-requires
is_touched-requires g c = (lit< tt, (omega (arith, c.loop-node-test.true, c.requires.in_use), c.requires.period))
