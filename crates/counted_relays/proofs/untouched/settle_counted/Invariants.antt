use Rattle.std.proofs.Common.{ℕ, ◌≡◌, ◌++◌, ◌∷◌, [], true, false, length, get_or}
use Rattle.node_grid.specs.NodeSet.{has_id, without_id}
use Rattle.omh_paths.specs.declared.wrapped.Wrapped.TheVariants.{Fault}
use Rattle.counted_relays.specs.Counted.{counted}
use Rattle.counted_relays.proofs.untouched.settle_counted.Given as goal

abbrev pub invariant-loop-i : goal.invariant-loop-i
invariant-loop-i g l = record {
  can : (goal.iterator-loop-i g).can_next l.i-iterator;
  ends : (goal.iterator-loop-i g).is_finite l.i-iterator;
  split : without_id l.exchange.awake l.exchange.commander ≡ l.yielded ++ l.i-iterator;
  places : length l.all ≡ g.row.N;
  settled : (i : ℕ) → has_id l.yielded i ≡ true → get_or l.all i (Fault 0) ≡ counted l.exchange.rounds l.exchange.members l.exchange.full l.own l.exchange.commander i;
  kept : (i : ℕ) → has_id (without_id l.exchange.awake l.exchange.commander) i ≡ false → get_or l.all i (Fault 0) ≡ get_or l.initial.all i (Fault 0);
}
