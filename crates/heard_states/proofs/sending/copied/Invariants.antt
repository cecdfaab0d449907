use Rattle.std.proofs.Common.{◌≡◌, take}
use Rattle.heard_states.proofs.sending.copied.Given as goal

abbrev pub invariant-loop-byte : goal.invariant-loop-byte
invariant-loop-byte l = l.body.items ≡ take l.byte-index l.bytes
