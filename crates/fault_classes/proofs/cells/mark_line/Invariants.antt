use Rattle.fault_classes.specs.Line.{line_of}
use Rattle.fault_classes.specs.Cells.{IsMarked, place_at}
use Rattle.fault_classes.proofs.Touching.{touched_before}
use Rattle.fault_classes.proofs.cells.mark_line.Given as goal

abbrev pub invariant-loop-period : goal.invariant-loop-period
invariant-loop-period g l = IsMarked (place_at l.shape.nodes l.shape.slots l.blocks.numbers.items) (touched_before l.shape.nodes l.shape.slots l.period (line_of l.line)) l.mark l.initial.cells l.cells
