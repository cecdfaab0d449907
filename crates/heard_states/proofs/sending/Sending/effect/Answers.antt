use Rattle.std.proofs.Common.{sym, ◌∙◌}
use Rattle.heard_states.proofs.sending.Sending.effect.Goals as goal

pub returns-else-has : goal.returns-else-has
returns-else-has g c =
    sym (c.requires.sending.untouched c.args.from c.args.to c.requires.from c.requires.to c.requires.other (sym c.has.ensures ∙ c.if-has.false))
