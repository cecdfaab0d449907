use Rattle.std.proofs.Common.{◌≡◌, drop}
use Rattle.std.specs.List.{list_all}
use Rattle.scenario.specs.Numbers.{is_between}
use Rattle.scenario.proofs.numbers.all_within.Given as goal

abbrev pub invariant-loop-number : goal.invariant-loop-number
invariant-loop-number l = list_all (is_between l.low l.high) (drop l.number-index l.numbers) ≡ list_all (is_between l.low l.high) l.numbers
