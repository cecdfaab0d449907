use Rattle.std.proofs.Common.{map, take}
use Rattle.fault_classes.specs.Line.{line_of}
use Rattle.fault_classes.specs.Touches.{IsTouched}
use Rattle.fault_classes.proofs.touches.touched_sets.Given as goal

abbrev pub invariant-loop-line : goal.invariant-loop-line
invariant-loop-line g l = IsTouched g.row.N l.shape.periods (take l.line-index (map line_of l.lines)) l.sets.items
