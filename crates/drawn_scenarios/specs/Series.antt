-- Rows of numbers, one for each node.
use Rattle.std.specs.Prelude.{ℕ, ◌+◌, ◌*◌, ◌/◌, ◌%◌, ◌^◌, ◌≤◌, ℤ, pos, ◌-ℤ◌, List, map}
use Rattle.node_grid.specs.NodeSet.{ids_below}
use Rattle.drawn_scenarios.specs.declared.series.Series.{Series}
use Rattle.drawn_scenarios.specs.declared.series.Series.TheVariants.{Readings, Results, Starts, Drifts, Errors}

-- the number of node j in row k: readings that differ by at most 4, results by at most 3; of clocks the least, the middle and the
-- greatest number in turn, each node another
abbrev pub number_at : Series → ℕ → ℕ → ℤ
number_at Readings k j = pos (100 + (3 * j + k) % 5)
number_at Results k j = pos (40 + j % 4)
number_at (Starts start) k j = pos (5 * j % 13 * start / 12)
number_at (Drifts drift) k j = pos ((j + k) % 3 * drift / 2)
number_at (Errors epsilon) k j = pos ((j + k) % 3 * epsilon) -ℤ pos epsilon

-- a number for each of so many nodes
abbrev pub row : Series → ℕ → ℕ → List ℤ
row s nodes k = map (number_at s k) (ids_below nodes)

abbrev pub three_rows : Series → ℕ → List (List ℤ)
three_rows s nodes = map (row s nodes) (ids_below 3)

-- how far starts, drifts and errors go, and which nodes and rows there are
abbrev pub IsSmall : Series → Type 0
IsSmall Readings = Unit {0}
IsSmall Results = Unit {0}
IsSmall (Starts start) = start ≤ 2 ^ 40
IsSmall (Drifts drift) = drift ≤ 2 ^ 20
IsSmall (Errors epsilon) = epsilon ≤ 2 ^ 20

pub record InRange (s : Series) (k j : ℕ) : Type 0 where
  pub small : IsSmall s
  pub rows : k ≤ 2
  pub nodes : j ≤ 16
