use Rattle.std.proofs.Common.{◌≡◌, ◌≤◌, ◌++◌, length}
use Rattle.node_grid.specs.Count.{count}
use Rattle.node_grid.specs.Planes.{count_at, EachCount}
use Rattle.error_reports.specs.Charge.{is_sender, is_accuser}
use Rattle.error_reports.proofs.charge_all.tally.Given as goal

abbrev pub invariant-loop-member : goal.invariant-loop-member
invariant-loop-member g l = record {
  can : (goal.iterator-loop-member g).can_next l.member-iterator;
  ends : (goal.iterator-loop-member g).is_finite l.member-iterator;
  split : l.members ≡ l.yielded ++ l.member-iterator;
  accusers : EachCount g.row.N (λ j k. count_at l.accusers j k ≡ count (is_accuser l.rows j k) l.yielded);
  senders : l.senders ≡ count (is_sender l.rows) l.yielded;
  few : l.senders ≤ length l.yielded;
}
