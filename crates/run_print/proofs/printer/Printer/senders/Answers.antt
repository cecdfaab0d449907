use Rattle.std.proofs.Common.{arith}
use Rattle.node_grid.specs.SetFacts.{flat_map_next}
use Rattle.run_print.proofs.Joining.{then}
use Rattle.run_text.specs.TraceText.{sender_text}
use Rattle.run_print.proofs.printer.Printer.senders.Goals as goal

pub loop-from-preserved : goal.loop-from-preserved
loop-from-preserved g c = record {
  size = omega (arith, c.receivers.auto.room, c.loop-from.invariant.size);
  prints = rw (flat_map_next (sender_text c.args.traced.now.plan.now c.args.traced.now.shown.now c.args.traced.now.slot) c.loop-from.from) (then c.loop-from.invariant.prints c.receivers.ensures);
}
