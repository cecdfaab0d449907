use Rattle.std.proofs.Common.{◌≡◌, refl, sym, ap, subst, ◌∙◌, inl, inr, lit<, true≢false}
use Rattle.node_steps.specs.Outcome.{Outcome}
use Rattle.run_text.specs.NodeText.{standing_text}
use Rattle.run_print.proofs.Joining.{all_gathered}
use Rattle.run_print.proofs.Alike.{some_same}
use Rattle.run_print.proofs.common.standing_of.Goals as goal

pub returns-in-Some : goal.returns-in-Some
returns-in-Some g c fits a e =
    let whole = all_gathered _ _ _ _ _ _ _ refl refl c.new-printer.ensures.gathered c.new-printer.ensures.failed fits c.standing.ensures in
    let same = some_same _ a (sym c.in-Some.is ∙ ap (λ (r : Outcome). r.agreed) c.shown.view_is ∙ e) in
    subst (λ x. c.standing.new.self.gathered ≡ standing_text c.args.nodes x) same whole

pub new-printer-requires : goal.new-printer-requires
new-printer-requires g c = lit< tt

pub standing-requires : goal.standing-requires
standing-requires g c = (lit< tt, elim g.bound-1.eight_or_sixteen [ inl e ↦ rw e (lit< tt) | inr e ↦ rw e (lit< tt) ])

pub returns-in-None : goal.returns-in-None
returns-in-None g c e a h = absurd (true≢false e)
