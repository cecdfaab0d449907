use Rattle.std.proofs.Common.{ap, ◌∙◌, Ok, arith}
use Rattle.scenario.proofs.Digits.{byte_of_digits, pair_of_digits}
use Rattle.scenario.proofs.hexadecimal.byte_of.Goals as goal

pub returns : goal.returns
returns c place =
    let high = c.from.ensures in
    let low = c.from-2.ensures in
    let same = byte_of_digits c.args.high c.args.low (omega arith) (omega arith) c.requires.high c.requires.low in
    pair_of_digits c.args.high c.args.low place c.requires.high c.requires.low ∙ ap Ok (rw (high, low) same)
