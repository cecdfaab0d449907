-- What the code reads and keeps, seen as in the definitions.
use Rattle.std.specs.Prelude.{ℕ, ◌^◌, ◌<◌, ◌≤◌, List, [], Option, None, Some, take, IfSome}
use Rattle.frames.specs.Content.{IsValue}
use Rattle.live_node.specs.Event as spec
use Rattle.live_node.specs.Event.{words}
use Rattle.live_node.specs.declared.event.Event.{Event}
use Rattle.live_node.specs.declared.event.Event.TheVariants.{Begin, Deliver, End, Restart, Reading, Ahead}

-- the words of what stands behind a word
abbrev pub words_behind : Option (List ℕ) → List (List ℕ)
words_behind None = []
words_behind (Some line) = words line

-- an event, the bytes of whose frame stand at the front of this room
abbrev pub event_in : List ℕ → Event → spec.Event
event_in room (Begin named) = spec.Begin named
event_in room (Deliver from tick size) = spec.Deliver from tick (take size room)
event_in room End = spec.End
event_in room Restart = spec.Restart
event_in room (Reading channel value) = spec.Reading channel value
event_in room (Ahead node by) = spec.Ahead node by

-- the bytes of its frame are all in a room of so many bytes, and its numbers are in range
abbrev pub FitsIn : ℕ → Event → Type 0
FitsIn room (Begin named) = IfSome named (λ p. p < 2 ^ 32)
FitsIn room (Deliver from tick size) = size ≤ room
FitsIn room End = Unit {0}
FitsIn room Restart = Unit {0}
FitsIn room (Reading channel value) = (channel ≤ 7) × IsValue value
FitsIn room (Ahead node by) = (node ≤ 15) × IsValue by

-- the node answers it
abbrev pub IsAnswered : Event → Type 0
IsAnswered (Begin named) = Unit {0}
IsAnswered (Deliver from tick size) = ⊥
IsAnswered End = Unit {0}
IsAnswered Restart = ⊥
IsAnswered (Reading channel value) = ⊥
IsAnswered (Ahead node by) = ⊥
