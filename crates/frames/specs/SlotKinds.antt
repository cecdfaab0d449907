-- The kind of the frames of a slot, by what the slot is.
use Rattle.std.specs.Prelude.{◌≡◌, ℕ, zero, suc, Some}
use Rattle.slot_plan.specs.declared.slot.Slot.{Slot}
use Rattle.slot_plan.specs.declared.slot.Slot.TheVariants.{Sync, Claims, Data, Rows}
use Rattle.slot_plan.specs.Slots.{slot_at, round_of}
use Rattle.frames.specs.FrameKinds.{state_kind, claim_kind, claim_relay_kind, data_kind, row_kind, row_relay_kind}
use Rattle.frames.specs.Content.{kind_in, round_in}

abbrev pub kind_of_slot : Slot → ℕ
kind_of_slot Sync = state_kind
kind_of_slot (Claims zero) = claim_kind
kind_of_slot (Claims (suc round)) = claim_relay_kind
kind_of_slot Data = data_kind
kind_of_slot (Rows zero) = row_kind
kind_of_slot (Rows (suc round)) = row_relay_kind

-- the kind that has its place in a slot, and the relay round, are those of what the slot is
abbrev pub SlotLaw : Type 0
SlotLaw = (m slot : ℕ) (x : Slot) → slot_at m slot ≡ Some x → (kind_in m slot ≡ kind_of_slot x) × (round_in m slot ≡ round_of x)
