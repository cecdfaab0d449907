-- What is known of a data slot in the code.
use Rattle.std.proofs.Common.{ℕ, ◌≡◌, List, subst}
use Rattle.told_values.specs.Slot.{SlotParts, slot_of, IsDataSlot, IsGoing}

-- by the parts that are those of its value
pub opened : {D : Type 0} {n : ℕ} (dues : D → ℕ → List ℕ) {x y : SlotParts D n} → x ≡ y → IsGoing dues x → IsDataSlot (slot_of dues y)
opened dues is ok = (subst (IsGoing dues) is ok).1
