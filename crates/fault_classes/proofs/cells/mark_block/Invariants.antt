use Rattle.fault_classes.specs.Line.{slots_in}
use Rattle.fault_classes.specs.Cells.{IsMarked, itself}
use Rattle.fault_classes.proofs.Touching.{block_below}
use Rattle.fault_classes.proofs.cells.mark_block.Given as goal

abbrev pub invariant-loop-slot : goal.invariant-loop-slot
invariant-loop-slot g l = IsMarked itself (block_below l.shape.nodes l.shape.slots l.block l.line.to (slots_in l.line.slots) l.slot) l.mark l.initial.cells l.cells
