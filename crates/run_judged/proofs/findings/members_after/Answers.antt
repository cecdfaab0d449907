use Rattle.std.proofs.Common.{Some, None, sym, ap, ◌∙◌, inl, inr, lit<}
use Rattle.agreed_state.specs.Agreed.{AgreedView}
use Rattle.run_judged.proofs.Founds.{after_shown}
use Rattle.run_judged.proofs.findings.members_after.Goals as goal

pub returns-in-None : goal.returns-in-None
returns-in-None g c = sym (after_shown c.args.seen.now.shown.now c.in-Some.node None c.in-Some.is (c.args.seen.now.reference _ c.in-Some.is) (rw c.in-None.is at c.agreed.ensures))

pub returns-in-Some-agreed : goal.returns-in-Some-agreed
returns-in-Some-agreed g c =
    ap (λ (a : AgreedView). Some a.standing.members) c.agreed-in-Some-agreed.view_is
    ∙ sym (after_shown c.args.seen.now.shown.now c.in-Some.node (Some c.in-Some-agreed.agreed.now) c.in-Some.is (c.args.seen.now.reference _ c.in-Some.is) (rw c.in-Some-agreed.is at c.agreed.ensures))

pub agreed-requires : goal.agreed-requires
agreed-requires g c = (elim g.bound-1.eight_or_sixteen [ inl e ↦ rw e (lit< tt) | inr e ↦ rw e (lit< tt) ], elim g.bound-1.eight_or_sixteen [ inl e ↦ rw e (lit< tt) | inr e ↦ rw e (lit< tt) ])
