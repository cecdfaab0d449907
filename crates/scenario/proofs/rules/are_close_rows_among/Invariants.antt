use Rattle.std.proofs.Common.{◌≡◌, drop, map}
use Rattle.std.specs.List.{list_all}
use Rattle.clock_skew.specs.Clock.{number_at}
use Rattle.scenario.specs.Rules.{are_close}
use Rattle.scenario.proofs.rules.are_close_rows_among.Given as goal

abbrev pub invariant-loop-row : goal.invariant-loop-row
invariant-loop-row l =
    list_all (λ row. are_close l.delta (map (number_at row) l.group)) (map (λ row. row.items) (drop l.row-index l.rows))
    ≡ list_all (λ row. are_close l.delta (map (number_at row) l.group)) (map (λ row. row.items) l.rows)
