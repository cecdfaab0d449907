use Rattle.std.proofs.Common.{ℕ, ◌≡◌, ◌<◌, ◌≤◌, ◌+◌, ◌++◌, length, get_or}
use Rattle.std.specs.Prelude.{◌⊎◌, if◌then◌else◌}
use Rattle.node_grid.specs.NodeSet.{has_id}
use Rattle.omh_paths.specs.declared.wrapped.Wrapped.TheVariants.{Fault}
use Rattle.omh_paths.specs.Wrapped.{wrapped}
use Rattle.omh_paths.specs.Paths.{outside}
use Rattle.omh.specs.Written.{IsSmall}
use Rattle.settled_paths.specs.Passing.{or_passed}
use Rattle.settled_paths.proofs.exchange.Exchange.lay_behind.Given as goal

abbrev pub invariant-loop-q : goal.invariant-loop-q
invariant-loop-q g l = record {
  can : (goal.iterator-loop-q g).can_next l.q-iterator;
  ends : (goal.iterator-loop-q g).is_finite l.q-iterator;
  split : outside l.self.members l.path ≡ l.yielded ++ l.q-iterator;
  end : l.place ≡ l.from + length l.yielded;
  room : length l.laid ≡ length l.initial.laid;
  each : (j : ℕ) → j < length l.yielded → get_or l.laid (l.from + j) (Fault 0) ≡ (if has_id l.self.full (get_or (outside l.self.members l.path) j 0) then wrapped (or_passed (g.T.Touched.says l.touched (get_or (outside l.self.members l.path) j 0) l.path) l.passed) else Fault 0);
  few : (most : ℕ) → 252 ≤ most → IsSmall most l.passed → (j : ℕ) → j < length l.yielded → IsSmall (most + 1) (get_or l.laid (l.from + j) (Fault 0));
  kept : (k : ℕ) → (k < l.from) ⊎ (l.from + length (outside l.self.members l.path) ≤ k) → get_or l.laid k (Fault 0) ≡ get_or l.initial.laid k (Fault 0);
}
