-- Where the slots of a period lie.
use Rattle.std.proofs.Common.{◌≡◌, ℕ, ◌+◌, ◌-◌, ◌*◌, ◌<◌, ◌≤◌, ◌↔◌, None, Some, arith}
use Rattle.std.proofs.lemmas.Bool.Decides.{nat_tests}
use Rattle.slot_plan.specs.declared.slot.Slot.{Slot}
use Rattle.slot_plan.specs.declared.slot.Slot.TheVariants.{Sync, Claims, Data, Rows}
use Rattle.slot_plan.specs.Slots.{slot_count, slot_at, slot_number, IsSlot}

-- the slot with the number of a slot is that slot
abbrev pub PlaceLaw : Type 0
PlaceLaw = (m : ℕ) (x : Slot) → IsSlot m x → slot_at m (slot_number m x) ≡ Some x

-- what has a number is a slot with that number
abbrev pub NumberLaw : Type 0
NumberLaw = (m number : ℕ) (x : Slot) → slot_at m number ≡ Some x → IsSlot m x × (slot_number m x ≡ number)

-- the numbers of slots are those below 2m + 4
abbrev pub CountLaw : Type 0
CountLaw = (m number : ℕ) → (slot_at m number ≡ None) ↔ (slot_count m ≤ number)

module _ (m : ℕ) where
  pub at_claims : (number : ℕ) → 0 < number → number ≤ m + 1 → slot_at m number ≡ Some (Claims (number - 1))
  at_claims number some low = grind (arith, nat_tests)

  pub at_data : (number : ℕ) → number ≡ m + 2 → slot_at m number ≡ Some Data
  at_data number is = grind (arith, nat_tests)

  pub at_rows : (number : ℕ) → m + 3 ≤ number → number ≤ 2 * m + 3 → slot_at m number ≡ Some (Rows (number - (m + 3)))
  at_rows number high low = grind (arith, nat_tests)

  pub at_none : (number : ℕ) → slot_count m ≤ number → slot_at m number ≡ None
  at_none number high = grind (arith, nat_tests)

  pub place : (x : Slot) → IsSlot m x → slot_at m (slot_number m x) ≡ Some x
  place Sync h = grind (arith, nat_tests)
  place (Claims r) h = grind (arith, nat_tests)
  place Data h = grind (arith, nat_tests)
  place (Rows r) h = grind (arith, nat_tests)
