use Rattle.std.proofs.Common.{◌≡◌, ℕ, length, get_or, sym, ap, ◌∙◌, arith, rules, refl}
use Rattle.penalty.specs.Step.{count_after, streak_after, counts_after, streaks_after}
use Rattle.penalty.specs.StepLaws.{for_nodes-none, for_nodes-more, for_nodes-past, counted-after}
use Rattle.penalty.proofs.counts.Counts.step.Goals as goal

pub loop-node-init : goal.loop-node-init
loop-node-init g c = record { counts = sym (for_nodes-none _ _); streaks = sym (for_nodes-none _ _) }

pub next_count-requires-clause-streak : goal.next_count-requires-clause-streak
next_count-requires-clause-streak g c =
    let i = c.loop-node.node in
    let same : get_or c.loop-node.self.streaks i 0 ≡ get_or c.args.self.now.streaks i 0 =
    ap (λ xs. get_or xs i 0) c.loop-node.invariant.streaks ∙ for_nodes-past i _ c.args.self.now.streaks i (omega arith) in
    omega (arith, same, c.requires.counted.unfilled i c.loop-node-test.true)

pub next_streak-requires-clause-streak : goal.next_streak-requires-clause-streak
next_streak-requires-clause-streak g c =
    let i = c.loop-node.node in
    let same : get_or c.loop-node.self.streaks i 0 ≡ get_or c.args.self.now.streaks i 0 =
    ap (λ xs. get_or xs i 0) c.loop-node.invariant.streaks ∙ for_nodes-past i _ c.args.self.now.streaks i (omega arith) in
    omega (arith, same, c.requires.counted.unfilled i c.loop-node-test.true)

pub loop-node-preserved : goal.loop-node-preserved
loop-node-preserved g c =
    let i = c.loop-node.node in
    let policy = c.args.policy.now in
    let counts = c.args.self.now.counts in
    let streaks = c.args.self.now.streaks in
    let charge : ℕ → ℕ = λ j. get_or c.args.charged.now j 0 in
    let counts_room : length counts ≡ g.row.N = search rules in
    let streaks_room : length streaks ≡ g.row.N = search rules in
    let count_at : get_or c.loop-node.self.counts i 0 ≡ get_or counts i 0 = ap (λ xs. get_or xs i 0) c.loop-node.invariant.counts ∙ for_nodes-past i _ counts i (omega arith) in
    let streak_at : get_or c.loop-node.self.streaks i 0 ≡ get_or streaks i 0 = ap (λ xs. get_or xs i 0) c.loop-node.invariant.streaks ∙ for_nodes-past i _ streaks i (omega arith) in
    let new_count : c.next_count.result ≡ count_after policy (charge i) (get_or counts i 0) (get_or streaks i 0) =
    c.next_count.ensures ∙ rw (count_at, streak_at) refl in
    let new_streak : c.next_streak.result ≡ streak_after policy (charge i) (get_or streaks i 0) = c.next_streak.ensures ∙ rw streak_at refl in
    record {
      counts = rw (c.loop-node.invariant.counts, new_count) (sym (for_nodes-more i _ counts (omega arith)));
      streaks = rw (c.loop-node.invariant.streaks, new_streak) (sym (for_nodes-more i _ streaks (omega arith)));
    }

pub returns-clause-counts : goal.returns-clause-counts
returns-clause-counts g c =
    let last : c.loop-node.node ≡ c.args.nodes = omega arith in
    c.loop-node.invariant.counts ∙ ap (λ n. counts_after c.args.policy.now n (λ j. get_or c.args.charged.now j 0) c.args.self.now.counts c.args.self.now.streaks) last

pub returns-clause-streaks : goal.returns-clause-streaks
returns-clause-streaks g c =
    let last : c.loop-node.node ≡ c.args.nodes = omega arith in
    c.loop-node.invariant.streaks ∙ ap (λ n. streaks_after c.args.policy.now n (λ j. get_or c.args.charged.now j 0) c.args.self.now.streaks) last

pub returns-clause-counted : goal.returns-clause-counted
returns-clause-counted g c =
    let last : c.loop-node.node ≡ c.args.nodes = omega arith in
    let policy = c.args.policy.now in
    let counts = c.args.self.now.counts in
    let streaks = c.args.self.now.streaks in
    let charge : ℕ → ℕ = λ j. get_or c.args.charged.now j 0 in
    let counts_room : length counts ≡ g.row.N = search rules in
    let streaks_room : length streaks ≡ g.row.N = search rules in
    rw (c.loop-node.invariant.counts, c.loop-node.invariant.streaks, last) (counted-after policy c.args.nodes charge counts streaks (omega arith) (omega arith) c.requires.counted)
