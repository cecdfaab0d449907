use Rattle.std.proofs.Common.{◌≡◌, ◌++◌, ◌≤◌, ◌<◌, ℕ, ℤ, Option, length}
use Rattle.std.specs.List.{filter_map, All}
use Rattle.mme_vote.proofs.gathering.vote_of_members.Given as goal

abbrev pub invariant-loop-k : goal.invariant-loop-k
invariant-loop-k g l = record {
  can : (goal.iterator-loop-k g).can_next l.k-iterator;
  ends : (goal.iterator-loop-k g).is_finite l.k-iterator;
  split : l.members ≡ l.yielded ++ l.k-iterator;
  low : All (λ k. k < g.row.N) l.k-iterator;
  values : (values : ℕ → Option ℤ) → ((k : ℕ) (value : Option ℤ) → k < g.row.N → goal.F-post g l.value_of k value → value ≡ values k) → l.present.items ≡ filter_map values l.yielded;
  few : length l.present.items ≤ length l.yielded;
}
