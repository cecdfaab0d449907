-- The plan of the slots of a period.
use Rattle.std.specs.Prelude.{ℕ, ◌+◌, ◌-◌, ◌*◌, ◌≤◌, ◌==◌, nat_le, Option, None, Some, if◌then◌else◌}
use Rattle.slot_plan.specs.declared.slot.Slot.{Slot}
use Rattle.slot_plan.specs.declared.slot.Slot.TheVariants.{Sync, Claims, Data, Rows}

-- with m relay rounds a period has 2m + 4 slots
abbrev pub slot_count : ℕ → ℕ
slot_count m = 2 * m + 4

-- what the slot of a number is, where there is one
abbrev pub slot_at : ℕ → ℕ → Option Slot
slot_at m number =
    if number == 0 then Some Sync
    else (if nat_le number (m + 1) then Some (Claims (number - 1))
    else (if number == m + 2 then Some Data
    else (if nat_le number (2 * m + 3) then Some (Rows (number - (m + 3))) else None)))

-- the slots that there are: a round is at most m
abbrev pub IsSlot : ℕ → Slot → Type 0
IsSlot m Sync = Unit {0}
IsSlot m (Claims round) = round ≤ m
IsSlot m Data = Unit {0}
IsSlot m (Rows round) = round ≤ m

abbrev pub slot_number : ℕ → Slot → ℕ
slot_number m Sync = 0
slot_number m (Claims round) = 1 + round
slot_number m Data = m + 2
slot_number m (Rows round) = m + 3 + round

-- the relay round of a slot
abbrev pub round_of : Slot → ℕ
round_of Sync = 0
round_of (Claims round) = round
round_of Data = 0
round_of (Rows round) = round
