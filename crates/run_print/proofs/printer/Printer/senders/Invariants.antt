use Rattle.std.proofs.Common.{◌≡◌, length}
use Rattle.std.specs.List.{flat_map}
use Rattle.node_grid.specs.NodeSet.{ids_below}
use Rattle.run_text.specs.TraceText.{sender_text}
use Rattle.run_print.specs.Printing.{Prints}
use Rattle.run_print.proofs.printer.Printer.senders.Given as goal

abbrev pub invariant-loop-from : goal.invariant-loop-from
invariant-loop-from g l = record {
  size : length l.room ≡ length l.initial.room;
  prints : Prints g.K.Sink.written g.K.Sink.faults l.initial.self l.initial.sink l.self l.sink
      (flat_map (sender_text l.traced.plan.now l.traced.shown.now l.traced.slot) (ids_below l.from));
}
