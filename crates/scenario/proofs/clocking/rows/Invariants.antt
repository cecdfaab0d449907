use Rattle.std.proofs.Common.{◌≡◌, take, map}
use Rattle.scenario.specs.Given.{padded}
use Rattle.scenario.proofs.clocking.rows.Given as goal

abbrev pub invariant-loop-row : goal.invariant-loop-row
invariant-loop-row g l = l.found.items ≡ map (padded g.row.N) (map (λ row. row.items) (take l.row-index l.rows))
