use Rattle.std.proofs.Common.{◌≡◌, ℕ, subst, arith}
use Rattle.std.specs.List.{flat_map}
use Rattle.node_grid.specs.NodeSet.{ids_below}
use Rattle.node_grid.specs.SetFacts.{flat_map_next}
use Rattle.run_print.specs.Printing.{Prints}
use Rattle.run_print.proofs.Joining.{then, nothing}
use Rattle.std.specs.Prelude.{slice_get}
use Rattle.run_text.specs.PeriodText.{recorded_text}
use Rattle.run_print.proofs.printer.Printer.nodes_with.Goals as goal

pub loop-i-init : goal.loop-i-init
loop-i-init g c = nothing g.K.Sink.written g.K.Sink.faults c.args.self.now c.args.sink.now

pub loop-i-smaller : goal.loop-i-smaller
loop-i-smaller g c = omega (arith, c.loop-i-test.true)

pub loop-i-preserved : goal.loop-i-preserved
loop-i-preserved g c =
    rw (flat_map_next (λ i. recorded_text c.args.shown.now i (slice_get c.args.shown.now.records i)) c.loop-i.i) (then c.loop-i.invariant c.recorded.ensures)

pub returns : goal.returns
returns g c =
    let last : c.loop-i.i ≡ c.args.shown.now.nodes = omega (arith, c.requires, c.loop-i-test.false, c.loop-i.auto.i-end) in
    subst (λ (k : ℕ). Prints g.K.Sink.written g.K.Sink.faults c.args.self.now c.args.sink.now c.loop-i.self c.loop-i.sink
    (flat_map (λ i. recorded_text c.args.shown.now i (slice_get c.args.shown.now.records i)) (ids_below k))) last c.loop-i.invariant
