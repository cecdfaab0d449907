use Rattle.std.proofs.Common.{◌≡◌, drop, map}
use Rattle.fault_classes.specs.Line.{line_of}
use Rattle.fault_classes.specs.Rules.{first_bad_line}
use Rattle.fault_classes.proofs.rules.first_bad_line.Given as goal

abbrev pub invariant-loop-place : goal.invariant-loop-place
invariant-loop-place g l =
    first_bad_line l.shape.nodes l.shape.slots l.shape.periods 0 (map line_of l.lines) ≡ first_bad_line l.shape.nodes l.shape.slots l.shape.periods l.place (drop l.place (map line_of l.lines))
