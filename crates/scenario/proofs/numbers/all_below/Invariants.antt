use Rattle.std.proofs.Common.{◌≡◌, drop}
use Rattle.std.specs.List.{list_all}
use Rattle.scenario.specs.Numbers.{is_below}
use Rattle.scenario.proofs.numbers.all_below.Given as goal

abbrev pub invariant-loop-number : goal.invariant-loop-number
invariant-loop-number l = list_all (is_below l.bound) (drop l.number-index l.numbers) ≡ list_all (is_below l.bound) l.numbers
