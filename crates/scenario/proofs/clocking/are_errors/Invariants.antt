use Rattle.std.proofs.Common.{◌≡◌, drop, map}
use Rattle.std.specs.List.{list_all}
use Rattle.scenario.specs.Rules.{are_up_to}
use Rattle.scenario.proofs.clocking.are_errors.Given as goal

abbrev pub invariant-loop-row : goal.invariant-loop-row
invariant-loop-row l = list_all (are_up_to l.nodes l.epsilon) (map (λ row. row.items) (drop l.row-index l.rows)) ≡ list_all (are_up_to l.nodes l.epsilon) (map (λ row. row.items) l.rows)
