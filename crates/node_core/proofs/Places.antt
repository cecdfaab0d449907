-- What slot a controller stands in, by its number.
use Rattle.std.proofs.Common.{ℕ, ◌≡◌, ◌≤◌, ◌+◌, ◌*◌, ap, refl, arith}
use Rattle.slot_plan.specs.declared.slot.Slot.{Slot}
use Rattle.slot_plan.specs.declared.slot.Slot.TheVariants.{Sync, Claims, Data, Rows}
use Rattle.slot_plan.specs.Slots.{slot_number, IsSlot}

module _ (m : ℕ) where
  pub in_sync : (x : Slot) → IsSlot m x → slot_number m x ≡ 0 → x ≡ Sync
  in_sync Sync h e = refl
  in_sync (Claims k) h e = absurd (omega arith)
  in_sync Data h e = absurd (omega arith)
  in_sync (Rows k) h e = absurd (omega arith)

  pub in_claims : (r : ℕ) (x : Slot) → IsSlot m x → r ≤ m → slot_number m x ≡ 1 + r → x ≡ Claims r
  in_claims r Sync h l e = absurd (omega arith)
  in_claims r (Claims k) h l e = let s : k ≡ r = omega arith in ap Claims s
  in_claims r Data h l e = absurd (omega arith)
  in_claims r (Rows k) h l e = absurd (omega arith)

  pub in_data : (x : Slot) → IsSlot m x → slot_number m x ≡ m + 2 → x ≡ Data
  in_data Sync h e = absurd (omega arith)
  in_data (Claims k) h e = absurd (omega arith)
  in_data Data h e = refl
  in_data (Rows k) h e = absurd (omega arith)

  pub in_rows : (r : ℕ) (x : Slot) → IsSlot m x → slot_number m x ≡ m + 3 + r → x ≡ Rows r
  in_rows r Sync h e = absurd (omega arith)
  in_rows r (Claims k) h e = absurd (omega arith)
  in_rows r Data h e = absurd (omega arith)
  in_rows r (Rows k) h e = let s : k ≡ r = omega arith in ap Rows s

  -- no slot has a number behind the last
  pub later_slots : (x : Slot) → IsSlot m x → slot_number m x ≡ 2 * m + 3 + 1 → ⊥
  later_slots Sync h e = omega arith
  later_slots (Claims k) h e = omega arith
  later_slots Data h e = omega arith
  later_slots (Rows k) h e = omega arith
