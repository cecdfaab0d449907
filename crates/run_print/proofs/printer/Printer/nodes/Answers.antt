use Rattle.std.proofs.Common.{◌≡◌, ◌<◌, ◌≤◌, ◌-◌, ℕ, inl, inr, ap, subst, ◌∙◌, arith, lit<}
use Rattle.std.specs.List.{flat_map}
use Rattle.node_grid.specs.NodeSet.{ids_below}
use Rattle.cluster_periods.specs.Record.{PeriodView}
use Rattle.run_print.specs.Printing.{Prints}
use Rattle.run_print.proofs.Joining.{nothing}
use Rattle.std.specs.Prelude.{slice_get}
use Rattle.run_text.specs.PeriodText.{recorded_text}
use Rattle.run_print.proofs.printer.Printer.nodes.Goals as goal

among : (a b i : ℕ) → a ≡ b → 0 < a → i ≤ a - 1 → i < b
among a b i e h least = omega (arith, e, h, least)

none : (a b : ℕ) → a ≤ 0 → a ≡ b → 0 ≡ b
none a b h e = omega (arith, h, e)

pub node-example-requires : goal.node-example-requires
node-example-requires g c = (assumption, (elim g.bound-2.eight_or_sixteen [ inl e ↦ rw e (lit< tt) | inr e ↦ rw e (lit< tt) ], among _ _ _ (ap (λ (t : PeriodView). t.nodes) c.shown.view_is) c.if-shown-gt0.true c.example_of.ensures))

pub of-requires : goal.of-requires
of-requires g c =
    (elim g.bound-2.eight_or_sixteen [ inl e ↦ rw e (lit< tt) | inr e ↦ rw e (lit< tt) ], lit< tt)

pub nodes_with-requires : goal.nodes_with-requires
nodes_with-requires g c = (assumption, (assumption, (lit< tt, c.of.ensures ∙ ap (λ (t : PeriodView). t.nodes) c.shown.view_is)))

pub returns-then-shown-gt0 : goal.returns-then-shown-gt0
returns-then-shown-gt0 g c = c.nodes_with.ensures

pub returns-else-shown-gt0 : goal.returns-else-shown-gt0
returns-else-shown-gt0 g c =
    subst (λ (k : ℕ). Prints g.K.Sink.written g.K.Sink.faults c.args.self.now c.args.sink.now c.args.self.now c.args.sink.now
    (flat_map (λ i. recorded_text c.args.shown.now i (slice_get c.args.shown.now.records i)) (ids_below k)))
    (none _ _ c.if-shown-gt0.false (ap (λ (t : PeriodView). t.nodes) c.shown.view_is)) (nothing g.K.Sink.written g.K.Sink.faults c.args.self.now c.args.sink.now)
