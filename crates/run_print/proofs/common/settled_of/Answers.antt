use Rattle.std.proofs.Common.{refl, inl, inr, lit<}
use Rattle.run_text.specs.NodeText.{settled_text}
use Rattle.run_print.proofs.Joining.{all_gathered}
use Rattle.run_print.proofs.common.settled_of.Goals as goal

pub returns : goal.returns
returns g c fits = all_gathered _ _ _ _ _ _ (settled_text c.args.nodes c.args.shown.now) refl refl c.new-printer.ensures.gathered c.new-printer.ensures.failed fits c.settled.ensures

pub settled-requires : goal.settled-requires
settled-requires g c = (lit< tt, elim g.bound-1.eight_or_sixteen [ inl e ↦ rw e (lit< tt) | inr e ↦ rw e (lit< tt) ])
