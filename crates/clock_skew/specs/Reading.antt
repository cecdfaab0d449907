-- What nodes read of each other's clocks, and where the clocks stand after a correction and a drift.
use Rattle.std.specs.Prelude.{◌≡◌, ℕ, ◌^◌, ℤ, pos, ◌+ℤ◌, ◌-ℤ◌, nat_lt, All, List, if◌then◌else◌}
use Rattle.node_grid.specs.Capacity.{IsCapacity}
use Rattle.clock_skew.specs.Clock.{ClockView, IsClock, number_at, drift_at, error_at, lie_at, IsUpTo}

-- what node i reads of node j in period p, from the offsets of all clocks before it
abbrev pub reading_at : ClockView → (ℕ → ℤ) → ℕ → ℕ → ℕ → ℤ
reading_at c offset p i j = (offset j -ℤ offset i) +ℤ error_at c i j p +ℤ lie_at c j i p

-- an offset with which no sum of a period wraps
abbrev pub IsOffset : ℤ → Type 0
IsOffset z = IsUpTo (pos (2 ^ 51)) z

-- clocks of so many nodes, and offsets of them with which no sum of a period wraps
pub record AreSteady (N : ℕ) (c : ClockView) (used : ℕ) (offset : List ℤ) : Type 0 where
  pub capacity : IsCapacity N
  pub clock : IsClock N c
  pub nodes : used ≡ c.nodes
  pub offsets : All IsOffset offset

-- where the clock of a node starts, and 0 of one that isn't in use
abbrev pub start_of : ClockView → ℕ → ℕ → ℤ
start_of c nodes i = if nat_lt i nodes then number_at c.start i else pos 0

-- what node i reads of node j in period p, and 0 of one that isn't in use
abbrev pub read_by : ClockView → ℕ → List ℤ → ℕ → ℕ → ℕ → ℤ
read_by c nodes offset p i j = if nat_lt j nodes then reading_at c (number_at offset) p i j else pos 0

-- the offset of node i after period p, by its correction and its drift, and 0 of one that isn't in use
abbrev pub moved : ClockView → ℕ → List ℤ → List ℤ → ℕ → ℕ → ℤ
moved c nodes offset correction p i = if nat_lt i nodes then number_at offset i +ℤ number_at correction i +ℤ drift_at c i p else pos 0
