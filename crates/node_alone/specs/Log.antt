-- One node's log: what it was delivered, and under which scenario.
use Rattle.std.specs.Prelude.{ℕ, Bool, ◌&&◌, ◌||◌, ◌==◌, nat_lt, List, map, filter}
use Rattle.error_detect.specs.Finding.{Delivery}
use Rattle.error_detect.specs.Multiset.{Arriving, from_sender}
use Rattle.scenario.specs.Scenario.{ScenarioView}

-- one delivery: the slot and its period, the sender, the tick and the bytes
pub record Entry : Type 0 where
  pub period : ℕ
  pub slot : ℕ
  pub from : ℕ
  pub tick : ℕ
  pub bytes : List ℕ

-- the log of node id, one entry after another
pub record RecordView (capacity : ℕ) : Type 0 where
  pub scenario : ScenarioView capacity
  pub id : ℕ
  pub entries : List Entry

-- whether an entry is of this slot of this period, and whether it is of an earlier one
abbrev pub is_at : ℕ → ℕ → Entry → Bool
is_at p t e = (e.period == p) && (e.slot == t)

abbrev pub is_before : ℕ → ℕ → Entry → Bool
is_before p t e = nat_lt e.period p || ((e.period == p) && nat_lt e.slot t)

abbrev pub arriving : Entry → Arriving
arriving e = record { from = e.from; tick = e.tick; bytes = e.bytes }

-- what was delivered in a slot
abbrev pub arrivals : List Entry → ℕ → ℕ → List Arriving
arrivals es p t = map arriving (filter (is_at p t) es)

-- and of that what came from one sender: ticks and bytes
abbrev pub entries_at : List Entry → ℕ → ℕ → ℕ → List Delivery
entries_at es p t j = from_sender j (arrivals es p t)
