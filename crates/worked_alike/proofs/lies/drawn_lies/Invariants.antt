use Rattle.std.proofs.Common.{◌≤◌, length, All}
use Rattle.clock_skew.specs.Clock.{IsLie, lie_of}
use Rattle.worked_alike.proofs.lies.drawn_lies.Given as goal

abbrev pub invariant-loop : goal.invariant-loop
invariant-loop l = record {
  few : length l.lies.items ≤ l.counter;
  are : All (λ lie. IsLie 12 (lie_of lie)) l.lies.items;
}
