use Rattle.std.proofs.Common.{sym, ◌∙◌}
use Rattle.scenario.proofs.Digits.{no_bytes}
use Rattle.scenario.proofs.hexadecimal.decode_pairs.Goals as goal

pub returns-then-not-are_digits-clause-none : goal.returns-then-not-are_digits-clause-none
returns-then-not-are_digits-clause-none c _ = no_bytes 0 _ (sym c.are_digits.ensures ∙ c.if-not-are_digits.true)
