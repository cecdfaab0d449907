use Rattle.std.proofs.Common.{◌≡◌, map, take}
use Rattle.std.specs.List.{flat_map}
use Rattle.scenario.specs.Seen.{lie_view}
use Rattle.drawn_scenarios.specs.Lines.{lies_of}
use Rattle.drawn_scenarios.proofs.lines.lies.Given as goal

abbrev pub invariant-loop-bout : goal.invariant-loop-bout
invariant-loop-bout l = map lie_view l.lies.items ≡ flat_map (lies_of l.options.choices) (take l.bout-index l.bouts)
