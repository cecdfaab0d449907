use Rattle.std.proofs.Common.{◌≡◌, get_or}
use Rattle.penalty.specs.Step.{counts_after, streaks_after}
use Rattle.penalty.proofs.counts.Counts.step.Given as goal

abbrev pub invariant-loop-node : goal.invariant-loop-node
invariant-loop-node g l = record {
  counts : l.self.counts ≡ counts_after l.policy l.node (λ j. get_or l.charged j 0) l.fn.self.counts l.fn.self.streaks;
  streaks : l.self.streaks ≡ streaks_after l.policy l.node (λ j. get_or l.charged j 0) l.fn.self.streaks;
}
