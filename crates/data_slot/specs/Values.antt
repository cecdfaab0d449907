-- The values of a period that a node has at the end of its data slot.
use Rattle.std.specs.Prelude.{ℕ, ℤ, List, map, Option, None, if◌then◌else◌}
use Rattle.node_grid.specs.Kinds.{missing}
use Rattle.node_grid.specs.NodeSet.{ids_below, has_id}
use Rattle.error_detect.specs.Watching.{Watch}
use Rattle.protocol.specs.Arrival.{values_in}
use Rattle.protocol.specs.Arrival.Arrival.{Bad}
use Rattle.protocol.specs.Run.{silence}
use Rattle.protocol.specs.View.{Received, channel_room}
use Rattle.noting.specs.Findings.{has_of}

-- the frames of a period, of which only this slot's values are known
abbrev pub only_values : Watch → Received
only_values w = record { sync = λ j. Bad missing; done = silence; values = has_of values_in w; report = silence }

-- of each channel that is due what a function says, and none of the others
unfoldable pub by_channel : List ℕ → (ℕ → Option ℤ) → List (Option ℤ)
by_channel due f = map (λ c. if has_id due c then f c else None) (ids_below channel_room)
