use Rattle.std.proofs.Common.{sym, ◌∙◌, subst}
use Rattle.drawn_scenarios.specs.Choices.{AreChoices}
use Rattle.drawn_scenarios.proofs.Narrow.{in_range, are_choices}
use Rattle.drawn_scenarios.proofs.options.Options.new.Goals as goal

pub invariant_of-result : goal.invariant_of-result
invariant_of-result c = record { in_range = subst AreChoices (sym c.narrowed.ensures) (are_choices c.args.parts.now (in_range c.args.parts.now (sym c.refusal.ensures ∙ c.in-None.is))) }
