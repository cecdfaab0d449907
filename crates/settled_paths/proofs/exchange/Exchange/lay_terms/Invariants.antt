use Rattle.std.proofs.Common.{ℕ, ◌≡◌, ◌<◌, ◌++◌, length, get_or}
use Rattle.omh_paths.specs.declared.wrapped.Wrapped.TheVariants.{Fault}
use Rattle.omh_paths.specs.Paths.{outside}
use Rattle.settled_paths.specs.Passing.{or_passed, instead}
use Rattle.settled_paths.proofs.exchange.Exchange.lay_terms.Given as goal

abbrev pub invariant-loop-q : goal.invariant-loop-q
invariant-loop-q g l = record {
  can : (goal.iterator-loop-q g).can_next l.q-iterator;
  ends : (goal.iterator-loop-q g).is_finite l.q-iterator;
  split : outside l.self.members l.path ≡ l.yielded ++ l.q-iterator;
  end : l.place ≡ length l.yielded;
  room : length l.terms ≡ length l.initial.terms;
  each : (j : ℕ) → j < length l.yielded → get_or l.terms j (Fault 0) ≡ or_passed (instead (g.T.Touched.says l.touched) l.i l.path (get_or (outside l.self.members l.path) j 0)) (get_or l.passed j (Fault 0));
}
