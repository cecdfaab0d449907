use Rattle.std.proofs.Common.{not, ap, sym, ◌∙◌, true≢false, inl, inr, lit<}
use Rattle.run_print.proofs.Alike.{settled_same}
use Rattle.run_print.proofs.common.Common.settles.Goals as goal

pub returns-then-not-self : goal.returns-then-not-self
returns-then-not-self g c e = c.args.self.now.settles c.if-not-self.true ∙ settled_same c.args.self.now.nodes c.args.self.now.shown.now c.args.other.now (c.settled_alike.ensures e)

pub returns-else-not-self : goal.returns-else-not-self
returns-else-not-self g c e = absurd (true≢false (sym e ∙ ap not c.if-not-self.false))

pub settled_alike-requires : goal.settled_alike-requires
settled_alike-requires g c = elim g.bound-1.eight_or_sixteen [ inl e ↦ rw e (lit< tt) | inr e ↦ rw e (lit< tt) ]
