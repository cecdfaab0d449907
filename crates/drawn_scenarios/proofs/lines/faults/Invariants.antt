use Rattle.std.proofs.Common.{◌≡◌, map, take}
use Rattle.std.specs.List.{flat_map}
use Rattle.scenario.specs.Seen.{fault_view}
use Rattle.drawn_scenarios.specs.Lines.{lines_of}
use Rattle.drawn_scenarios.proofs.lines.faults.Given as goal

abbrev pub invariant-loop-bout : goal.invariant-loop-bout
invariant-loop-bout l = map fault_view l.faults.items ≡ flat_map (lines_of l.options.choices) (take l.bout-index l.bouts)
