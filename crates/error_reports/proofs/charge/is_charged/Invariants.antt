use Rattle.std.proofs.Common.{◌≡◌, ◌++◌}
use Rattle.error_reports.proofs.Voting.{Tally}
use Rattle.error_reports.proofs.charge.is_charged.Given as goal

abbrev pub invariant-loop-member : goal.invariant-loop-member
invariant-loop-member g l = record {
  can : (goal.iterator-loop-member g).can_next l.member-iterator;
  ends : (goal.iterator-loop-member g).is_finite l.member-iterator;
  split : l.members ≡ l.yielded ++ l.member-iterator;
  tally : Tally l.rows l.node l.kind l.yielded l.voters l.accusers;
}
