use Rattle.std.proofs.Common.{ℕ, subst, ◌≡◌, inl, inr, sym, ap, ◌∙◌, lit<}
use Rattle.cluster_periods.specs.Record.{PeriodView}
use Rattle.run_text.specs.NodeText.{beliefs_text}
use Rattle.run_print.specs.Printing.{Prints}
use Rattle.run_print.proofs.Joining.{then}
use Rattle.run_print.proofs.printer.Printer.recorded.Goals as goal

pub returns : goal.returns
returns g c =
    let same : c.args.common.now.nodes ≡ c.shown.inside.nodes = c.requires.same ∙ sym (ap (λ (t : PeriodView). t.nodes) c.shown.view_is) in
    let beliefs = subst (λ (k : ℕ). Prints g.K.Sink.written g.K.Sink.faults c.front.new.self c.front.new.sink c.beliefs.new.self c.beliefs.new.sink (beliefs_text k c.shown.inside.retire c.node.result.now c.node.result.now.agreed)) same c.beliefs.ensures in
    rw (c.node.ensures, sym c.shown.view_is) (then (rw (sym c.letter_at.ensures) at c.front.ensures) beliefs)

pub front-requires : goal.front-requires
front-requires g c = assumption

pub node-requires : goal.node-requires
node-requires g c = (assumption, (elim g.bound-2.eight_or_sixteen [ inl e ↦ rw e (lit< tt) | inr e ↦ rw e (lit< tt) ], c.requires.node))

pub beliefs-requires : goal.beliefs-requires
beliefs-requires g c = (assumption, elim g.bound-2.eight_or_sixteen [ inl e ↦ rw e (lit< tt, lit< tt) | inr e ↦ rw e (lit< tt, lit< tt) ])
