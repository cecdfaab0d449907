use Rattle.std.proofs.Common.{◌≡◌, ◌++◌, true, get_or}
use Rattle.std.specs.Prelude.{nat_le}
use Rattle.std.specs.List.{list_all}
use Rattle.membership.proofs.all_would_leave.Given as goal

abbrev pub invariant-loop-member : goal.invariant-loop-member
invariant-loop-member g l = record {
  can : (goal.iterator-loop-member g).can_next l.member-iterator;
  ends : (goal.iterator-loop-member g).is_finite l.member-iterator;
  split : l.members ≡ l.yielded ++ l.member-iterator;
  all : list_all (λ j. nat_le l.policy.exclude (get_or l.counts.counts j 0)) l.yielded ≡ true;
}
