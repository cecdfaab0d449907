use Rattle.std.proofs.Common.{◌≡◌, ◌++◌, map, take}
use Rattle.scenario.specs.Seen.{restart_view}
use Rattle.drawn_scenarios.specs.Lines.{restarts_at}
use Rattle.drawn_scenarios.proofs.lines.push_restarts.Given as goal

abbrev pub invariant-loop-bout : goal.invariant-loop-bout
invariant-loop-bout l = map restart_view l.restarts.items ≡ map restart_view l.fn.restarts.items ++ restarts_at l.options.choices (take l.bout-index l.bouts) l.period
