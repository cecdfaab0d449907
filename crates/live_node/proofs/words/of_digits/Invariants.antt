use Rattle.std.proofs.Common.{◌≡◌, ◌^◌, ◌-◌, take, min}
use Rattle.live_node.specs.Event.{of_digits}
use Rattle.live_node.proofs.words.of_digits.Given as goal

abbrev pub invariant-loop-code : goal.invariant-loop-code
invariant-loop-code l = l.number ≡ min (of_digits (take l.code-index l.word)) (2 ^ 64 - 1)
