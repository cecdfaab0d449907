use Rattle.std.proofs.Common.{◌≡◌, drop}
use Rattle.std.specs.List.{list_any}
use Rattle.std.specs.Ordering.{int_eq}
use Rattle.scenario.proofs.numbers.has.Given as goal

abbrev pub invariant-loop-other : goal.invariant-loop-other
invariant-loop-other l = list_any (λ z. int_eq z l.number) (drop l.other-index l.numbers) ≡ list_any (λ z. int_eq z l.number) l.numbers
