use Rattle.std.proofs.Common.{◌*◌, arith}
use Rattle.hex.proofs.Pairs.{decode_step, decode_done}
use Rattle.scenario.proofs.hexadecimal.decode_digits.Goals as goal

pub bounds-digits-i : goal.bounds-digits-i
bounds-digits-i c = omega (arith, c.loop-i-test.true, c.requires.length)

pub bounds-digits-i-in-loop-i : goal.bounds-digits-i-in-loop-i
bounds-digits-i-in-loop-i c = omega (arith, c.loop-i-test.true, c.requires.length)

pub bounds-bytes-i : goal.bounds-bytes-i
bounds-bytes-i c = omega (arith, c.loop-i-test.true, c.loop-i.auto.bytes)

pub loop-i-preserved : goal.loop-i-preserved
loop-i-preserved c =
    decode_step _ _ c.loop-i.i _ (omega arith) (omega arith) (c.byte_of.ensures (2 * c.loop-i.i)) c.loop-i.invariant

pub returns : goal.returns
returns c = decode_done _ c.loop-i.bytes c.loop-i.i (omega arith) (omega arith) c.loop-i.invariant
