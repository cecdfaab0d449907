use Rattle.node_grid.specs.NodeSet.{has_id}
use Rattle.fault_classes.specs.Cells.{IsMarked, itself}
use Rattle.fault_classes.proofs.Marking.{digits_below}
use Rattle.fault_classes.proofs.cells.mark_row.Given as goal

abbrev pub invariant-loop-id : goal.invariant-loop-id
invariant-loop-id g l = IsMarked itself (digits_below (has_id l.to) l.nodes l.row l.id) l.mark l.initial.cells l.cells
