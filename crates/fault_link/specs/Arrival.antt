-- What a fault line delivers of a frame: ticks and bytes.
use Rattle.std.specs.Prelude.{ℕ, ◌+◌, ◌-◌, ◌&&◌, nat_le, nat_lt, List, [], ◌∷◌, length, take, map, Option, None, Some, if◌then◌else◌, slice_index}
use Rattle.std.specs.List.{range_with_len}
use Rattle.slot_plan.specs.Ticks.{on_time}
use Rattle.fault_classes.specs.Change.{Change}
use Rattle.fault_classes.specs.Change.Change.{Drop, Cut, Twice, Time, Set, Raw}

-- the frame with other bytes from an offset on, as far as they fall within it
abbrev pub patched : ℕ → List ℕ → List ℕ → List ℕ
patched at bytes frame =
    map (λ i. if nat_le at i && nat_lt i (at + length bytes) then slice_index bytes (i - at) else slice_index frame i) (range_with_len 0 (length frame))

abbrev pub delivered_by : Change → List ℕ → List (ℕ × List ℕ)
delivered_by Drop frame = []
delivered_by (Cut k) frame = (on_time, take (length frame - k) frame) ∷ []
delivered_by Twice frame = (on_time, frame) ∷ (on_time, frame) ∷ []
delivered_by (Time t) frame = (t, frame) ∷ []
delivered_by (Set at bytes) frame = (on_time, patched at bytes frame) ∷ []
delivered_by (Raw bytes) frame = (on_time, bytes) ∷ []

-- what arrives of a frame by what befalls it; a frame that no line touches arrives once
abbrev pub delivered_of : Option Change → List ℕ → List (ℕ × List ℕ)
delivered_of None frame = (on_time, frame) ∷ []
delivered_of (Some c) frame = delivered_by c frame
