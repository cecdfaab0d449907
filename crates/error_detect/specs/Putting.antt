-- Bytes that stand in a room, and are put into it.
use Rattle.std.specs.Prelude.{◌≡◌, ℕ, ◌+◌, ◌≤◌, List, length, take, drop}

-- these bytes stand in a room from a place on
pub record HasAt (room : List ℕ) (at : ℕ) (bytes : List ℕ) : Type 0 where
  pub within : at + length bytes ≤ length room
  pub there : take (length bytes) (drop at room) ≡ bytes

-- they do now, and what stood before and behind them does still
pub record IsPut (at : ℕ) (bytes old new : List ℕ) : Type 0 where
  pub has : HasAt new at bytes
  pub longer : length old ≤ length new
  pub before : (from n : ℕ) → from + n ≤ length old → from + n ≤ at → take n (drop from new) ≡ take n (drop from old)
  pub behind : (from n : ℕ) → from + n ≤ length old → at + length bytes ≤ from → take n (drop from new) ≡ take n (drop from old)
