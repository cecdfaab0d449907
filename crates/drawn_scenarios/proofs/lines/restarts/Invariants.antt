use Rattle.std.proofs.Common.{◌≡◌, ◌-◌, map}
use Rattle.std.specs.List.{flat_map, range_with_len}
use Rattle.scenario.specs.Seen.{restart_view}
use Rattle.drawn_scenarios.specs.Lines.{restarts_at}
use Rattle.drawn_scenarios.proofs.lines.restarts.Given as goal

abbrev pub invariant-loop-period : goal.invariant-loop-period
invariant-loop-period l = map restart_view l.restarts.items ≡ flat_map (restarts_at l.options.choices l.bouts) (range_with_len 1 (l.period - 1))
