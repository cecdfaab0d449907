use Rattle.std.proofs.Common.{ℕ, subst, inl, inr, lit<}
use Rattle.run_text.specs.NodeText.{beliefs_text}
use Rattle.run_print.specs.Printing.{Prints}
use Rattle.run_print.proofs.Joining.{then, finished}
use Rattle.run_print.proofs.node.write_alone.Goals as goal

pub returns : goal.returns
returns g c =
    let beliefs = subst (λ (k : ℕ). Prints g.K.Sink.written g.K.Sink.faults c.front.new.self c.front.new.sink c.beliefs.new.self c.beliefs.new.sink (beliefs_text k c.args.config.now.policy.retire c.args.shown.now c.args.shown.now.agreed)) c.of-common.ensures c.beliefs.ensures in
    finished c.new-printer.ensures.gathered c.new-printer.ensures.failed
    (then (then c.labelled.ensures c.byte.ensures) (then c.front.ensures beliefs)) c.finish.ensures

pub of-common-requires : goal.of-common-requires
of-common-requires g c = (elim g.bound-2.eight_or_sixteen [ inl e ↦ rw e (lit< tt) | inr e ↦ rw e (lit< tt) ], lit< tt)

pub beliefs-requires : goal.beliefs-requires
beliefs-requires g c = (lit< tt, (elim g.bound-2.eight_or_sixteen [ inl e ↦ rw e (lit< tt) | inr e ↦ rw e (lit< tt) ], lit< tt))
