-- Fault lines, and what befalls a frame by them.
use Rattle.std.specs.Prelude.{ℕ, Bool, ◌&&◌, ◌==◌, nat_le, List, Option}
use Rattle.std.specs.List.{find, list_any}
use Rattle.std.specs.Option.{option_map}
use Rattle.node_grid.specs.NodeSet.{has_id, bits_set}
use Rattle.fault_classes.specs.declared.line.FaultLine.{FaultLine}
use Rattle.fault_classes.specs.Change.{Change, change_of}

-- a fault line, its receivers and its slots in ascending order
pub record Line : Type 0 where
  pub from : ℕ
  pub to : List ℕ
  pub first : ℕ
  pub last : ℕ
  pub slots : List ℕ
  pub change : Change

-- the slots of a mask, in which bit s stands for slot s
unfoldable pub slots_in : ℕ → List ℕ
slots_in mask = bits_set 16 mask

abbrev pub line_of : {n : ℕ} → FaultLine n → Line
line_of l = record { from = l.from; to = l.to; first = l.first; last = l.last; slots = slots_in l.slots; change = change_of l.effect }

-- whether the line touches the frame of period p and slot s from node i to node j
abbrev pub touches : ℕ → ℕ → ℕ → ℕ → Line → Bool
touches p s i j l = l.from == i && (has_id l.to j && (has_id l.slots s && (nat_le l.first p && nat_le p l.last)))

-- what befalls that frame: the change of the first line that touches it, and None where no line does
abbrev pub effect_at : List Line → ℕ → ℕ → ℕ → ℕ → Option Change
effect_at lines p s i j = option_map (λ l. l.change) (find (touches p s i j) lines)

-- whether two lines share a link, a slot and a period
abbrev pub shares : Line → Line → Bool
shares a b = a.from == b.from && (list_any (has_id b.to) a.to && (list_any (has_id b.slots) a.slots && (nat_le a.first b.last && nat_le b.first a.last)))
