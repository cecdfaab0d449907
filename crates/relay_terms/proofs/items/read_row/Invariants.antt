use Rattle.std.proofs.Common.{◌≡◌, ◌++◌, ◌-◌, take, map, replicate}
use Rattle.std.specs.Int.{w16, from_be_bytes}
use Rattle.frames.specs.Reading.{pieces_of_width}
use Rattle.relay_terms.proofs.items.read_row.Given as goal

abbrev pub invariant-loop-node : goal.invariant-loop-node
invariant-loop-node g l = l.masks ≡ take l.node (map (from_be_bytes w16) (pieces_of_width 2 l.bytes)) ++ replicate (g.row.N - l.node) 0
