use Rattle.std.proofs.Common.{sym, ◌∙◌}
use Rattle.clock_skew.specs.Clock.{lie_of}
use Rattle.scenario.specs.Rules.{hears}
use Rattle.scenario.proofs.Lying.{all_here}
use Rattle.scenario.proofs.clocking.is_to_all.Goals as goal

pub loop-node-preserved : goal.loop-node-preserved
loop-node-preserved g c = all_here (hears (lie_of c.args.lie.now)) c.loop-node.node c.args.nodes c.loop-node-test.true (sym c.hears.ensures ∙ c.if-not-hears.false) ∙ c.loop-node.invariant
