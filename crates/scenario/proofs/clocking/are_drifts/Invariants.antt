use Rattle.std.proofs.Common.{◌≡◌, drop, map}
use Rattle.std.specs.List.{list_all}
use Rattle.scenario.specs.Rules.{is_drift}
use Rattle.scenario.proofs.clocking.are_drifts.Given as goal

abbrev pub invariant-loop-row : goal.invariant-loop-row
invariant-loop-row l = list_all (is_drift l.nodes l.drift) (map (λ row. row.items) (drop l.row-index l.rows)) ≡ list_all (is_drift l.nodes l.drift) (map (λ row. row.items) l.rows)
