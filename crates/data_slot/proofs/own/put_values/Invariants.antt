use Rattle.std.proofs.Common.{◌≡◌, take, map}
use Rattle.std.specs.List.{flat_map}
use Rattle.frames.specs.Spelling.{value_spelling}
use Rattle.frames.specs.Writing.{pasted}
use Rattle.protocol.specs.View.{own_in}
use Rattle.data_slot.proofs.own.put_values.Given as goal

abbrev pub invariant-loop-k : goal.invariant-loop-k
invariant-loop-k l = l.out ≡ pasted 0 (flat_map value_spelling (take l.k (map (own_in l.own) l.due))) l.initial.out
