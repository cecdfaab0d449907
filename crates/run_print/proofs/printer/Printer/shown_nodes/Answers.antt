use Rattle.std.specs.Prelude.{slice_get}
use Rattle.node_grid.specs.SetFacts.{flat_map_next}
use Rattle.run_text.specs.PeriodText.{recorded_text}
use Rattle.shown_period.specs.Whole.{record_of}
use Rattle.run_print.proofs.Joining.{then, nothing}
use Rattle.run_print.proofs.printer.Printer.shown_nodes.Goals as goal

pub loop-i-init : goal.loop-i-init
loop-i-init g c = nothing g.K.Sink.written g.K.Sink.faults c.args.self.now c.args.sink.now

pub loop-i-preserved : goal.loop-i-preserved
loop-i-preserved g c =
    rw (flat_map_next (λ i. recorded_text (record_of c.args.shown.now) i (slice_get (record_of c.args.shown.now).records i)) c.loop-i.i) (then c.loop-i.invariant (rw c.of-example.ensures at c.shown_node.ensures))
