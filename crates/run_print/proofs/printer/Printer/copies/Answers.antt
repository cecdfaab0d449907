use Rattle.run_print.proofs.Joining.{then}
use Rattle.run_print.proofs.Lists.{copy_next}
use Rattle.run_text.specs.TraceText.{frame_text}
use Rattle.run_print.proofs.printer.Printer.copies.Goals as goal

pub loop-copy-preserved : goal.loop-copy-preserved
loop-copy-preserved g c =
    rw (copy_next (frame_text c.args.start.now c.args.to) (c.args.delivered.now.tick, c.args.delivered.now.bytes.now) c.loop-copy._copy) (then c.loop-copy.invariant c.frame.ensures)
