use Rattle.std.proofs.Common.{ℕ, ◌≡◌, ◌<◌, ◌≤◌, ◌+◌, ◌==◌, ◌||◌, List, true, false, sym, ap, ◌∙◌, inl, inr, arith, eqb-true}
use Rattle.std.proofs.lemmas.Bool.{cases_eq, cases_lt, or_cases, both_ways}
use Rattle.node_grid.specs.NodeSet.{has_id, with_id}
use Rattle.node_grid.specs.NodeSetLaws.{has-with_id, hasnt-filter}
use Rattle.fault_classes.specs.Plan.{is_clean}
use Rattle.heard_links.proofs.Puts.{more_off}
use Rattle.heard_links.proofs.phase.Phase.unclean.Goals as goal
use Rattle.heard_links.proofs.phase.Phase.unclean.Goals.{then-not-clean, else-not-clean}

-- the set with one node more has nodes up to it
more_used : (n : ℕ) (old new : List ℕ) (j k : ℕ) → new ≡ with_id n old j → ((q : ℕ) → has_id old q ≡ true → q < j) → k < n → has_id new k ≡ true → k < j + 1
more_used n old new j k is used low on = elim (or_cases (k == j) (has_id old k) (sym (has-with_id n old j k low) ∙ ap (λ (s : List ℕ). has_id s k) (sym is) ∙ on)) [
  | inl here ↦ let e : k ≡ j = eqb-true k j here in omega arith
  | inr old ↦ let l = used k old in omega arith
]

more_low : (n : ℕ) (old new : List ℕ) (j k : ℕ) → new ≡ with_id n old j → n ≤ k → has_id new k ≡ false
more_low n old new j k is high = ap (λ (s : List ℕ). has_id s k) is ∙ hasnt-filter (λ i. (i == j) || has_id old i) n k high

pub loop-j-preserved : goal.loop-j-preserved
loop-j-preserved g c = elim c.if-not-clean.branch [
  | then-not-clean w ↦
      let is = w.touched-is ∙ w.put.ensures in
      let f = c.requires.config.few_nodes in
      let below = c.loop-j-test.true in record {
        clean = λ k low off.
            let p = more_off g.row.N c.loop-j.touched c.if-not-clean.touched c.loop-j.j k is (omega arith) off in
            let ne = p.0 in
            c.loop-j.invariant.clean k (omega arith) p.1;
        used = λ k on. elim (cases_lt k g.row.N) [
          | inl low ↦ more_used g.row.N c.loop-j.touched c.if-not-clean.touched c.loop-j.j k is c.loop-j.invariant.used low on
          | inr high ↦ absurd (both_ways _ (more_low g.row.N c.loop-j.touched c.if-not-clean.touched c.loop-j.j k is high) on)
        ];
      }
  | else-not-clean w ↦ record {
    clean = λ k low off. elim (cases_eq k c.loop-j.j) [
      | inl e ↦ ap (is_clean c.args.self.now.plan.now c.args.self.now.period) e ∙ sym c.clean.ensures ∙ w.if-not-clean.false
      | inr ne ↦ c.loop-j.invariant.clean k (omega arith) (ap (λ (s : List ℕ). has_id s k) (sym w.touched-is) ∙ off)
    ];
    used = λ k on. let l = c.loop-j.invariant.used k (ap (λ (s : List ℕ). has_id s k) (sym w.touched-is) ∙ on) in omega arith;
  }
]
