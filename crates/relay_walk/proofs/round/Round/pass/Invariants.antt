use Rattle.std.proofs.Common.{◌≡◌, ◌++◌}
use Rattle.relay_walk.specs.Walking.{IsMoved}
use Rattle.relay_walk.proofs.round.Round.pass.Given as goal

abbrev pub invariant-loop-member : goal.invariant-loop-member
invariant-loop-member g l = record {
  can : (goal.iterator-loop-member g).can_next l.member-iterator;
  ends : (goal.iterator-loop-member g).is_finite l.member-iterator;
  split : l.others ≡ l.yielded ++ l.member-iterator;
  moved : IsMoved l.yielded l.initial.self l.self;
}
