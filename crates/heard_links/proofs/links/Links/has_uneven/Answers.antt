use Rattle.std.proofs.Common.{sym, ◌∙◌}
use Rattle.std.proofs.lemmas.Bool.{not-false}
use Rattle.heard_links.proofs.Saying.{untouched_came}
use Rattle.heard_links.proofs.Tables.{not_touched}
use Rattle.heard_links.proofs.links.Links.has_uneven.Goals as goal

pub returns-then-not-has_touched : goal.returns-then-not-has_touched
returns-then-not-has_touched g c = λ no low_from low_to. not_touched c.args.self.now c.args.round c.args.from c.args.to (sym c.has_touched.ensures ∙ c.if-not-has_touched.true)

pub returns : goal.returns
returns g c = λ no low_from low_to. sym c.came.ensures ∙ untouched_came c.came.result (sym c.is_untouched.ensures ∙ not-false c.is_untouched.result no)
