use Rattle.std.proofs.Common.{◌≡◌, ◌*◌, ◌++◌, take, drop}
use Rattle.hex.specs.Hex.{encode_with, lower_digits}
use Rattle.run_print.proofs.trace.spell.Given as goal

abbrev pub invariant-loop-i : goal.invariant-loop-i
invariant-loop-i l =
    take (2 * l.i) l.digits ++ encode_with lower_digits (drop l.i l.bytes) ≡ encode_with lower_digits l.bytes
