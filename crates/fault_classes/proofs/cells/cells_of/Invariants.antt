use Rattle.std.proofs.Common.{◌≡◌, [], map, take, drop}
use Rattle.fault_classes.specs.Line.{line_of}
use Rattle.fault_classes.specs.Rules.{first_overlap}
use Rattle.fault_classes.specs.Cells.{IsTable}
use Rattle.fault_classes.proofs.cells.cells_of.Given as goal

abbrev pub invariant-loop-place : goal.invariant-loop-place
invariant-loop-place g l = record {
  table : IsTable l.shape.nodes l.shape.slots l.blocks (take l.place (map line_of l.lines)) l.cells.items;
  apart : first_overlap [] (map line_of l.lines) ≡ first_overlap (take l.place (map line_of l.lines)) (drop l.place (map line_of l.lines));
}
