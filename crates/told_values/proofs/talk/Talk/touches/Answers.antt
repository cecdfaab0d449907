use Rattle.std.proofs.Common.{not, sym, ap, ◌∙◌}
use Rattle.told_values.specs.Clean.{clean_in}
use Rattle.told_values.proofs.talk.Talk.touches.Goals as goal

pub returns-then-clean : goal.returns-then-clean
returns-then-clean g c = sym (ap not (clean_in c.args.self.now.plan.now c.args.self.now.period c.args.self.now.slot c.args.from c.args.self.now.in_period (sym c.clean.ensures ∙ c.if-clean.true)))
