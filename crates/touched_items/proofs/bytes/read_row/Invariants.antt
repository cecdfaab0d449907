use Rattle.std.proofs.Common.{◌≡◌, ◌++◌, ◌-◌, take, map, replicate}
use Rattle.std.specs.Int.{w16, from_be_bytes}
use Rattle.frames.specs.Reading.{pieces_of_width}
use Rattle.touched_items.proofs.bytes.read_row.Given as goal

abbrev pub invariant-loop-j : goal.invariant-loop-j
invariant-loop-j g l = l.row-inside.masks ≡ take l.j (map (from_be_bytes w16) (pieces_of_width 2 l.bytes)) ++ replicate (g.row.N - l.j) 0
