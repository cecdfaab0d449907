use Rattle.std.proofs.Common.{◌≡◌, take}
use Rattle.std.specs.Int.{w16, to_be_bytes}
use Rattle.std.specs.List.{flat_map}
use Rattle.frames.specs.Writing.{pasted}
use Rattle.frames.proofs.cells.write_masks.Given as goal

abbrev pub invariant-loop-j : goal.invariant-loop-j
invariant-loop-j l = l.out ≡ pasted l.at (flat_map (to_be_bytes w16) (take l.j l.masks)) l.initial.out
