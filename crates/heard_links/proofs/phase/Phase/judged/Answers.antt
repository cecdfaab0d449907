use Rattle.std.proofs.Common.{ℕ, ◌≡◌, ◌≢◌, ◌<◌, ◌≤◌, ◌+◌, ◌==◌, ◌||◌, List, true, false, None, refl, sym, ap, subst, ◌∙◌, inl, inr, arith, eqb-true}
use Rattle.std.proofs.lemmas.Bool.{or_cases, both_ways}
use Rattle.node_grid.specs.NodeSet.{has_id, ids_below}
use Rattle.node_grid.specs.NodeSetLaws.{has-range, filter_every, hasnt-filter}
use Rattle.node_grid.specs.ListLaws.{all_at}
use Rattle.slot_plan.specs.Slots.{slot_count}
use Rattle.node_grid.specs.SetFacts.{below_of}
use Rattle.fault_classes.specs.Change.{is_untouched}
use Rattle.fault_classes.specs.Line.{effect_at}
use Rattle.fault_classes.specs.Plan.{Plan, is_clean, each_in_slot, slots_of, nodes_of}
use Rattle.fault_classes.specs.ChangeLaws.{untouched_is}
use Rattle.heard_links.proofs.phase.Phase.judged.Goals as goal

-- nothing befalls the frames of a clean node
clean_at : (plan : Plan) (p s j i : ℕ) → is_clean plan p j ≡ true → s < slot_count plan.rounds → i < plan.nodes → i ≢ j → effect_at plan.lines p s j i ≡ None
clean_at plan p s j i clean slot low ne =
    let each = all_at (each_in_slot plan is_untouched p j) (slots_of plan) s clean (has-range 0 (slot_count plan.rounds) s (omega arith) (omega arith)) in
    elim (or_cases (i == j) (is_untouched (effect_at plan.lines p s j i)) (all_at (λ h. (h == j) || is_untouched (effect_at plan.lines p s j h)) (nodes_of plan) i each (has-range 0 plan.nodes i (omega arith) (omega arith)))) [
      | inl here ↦ absurd (ne (eqb-true i j here))
      | inr none ↦ untouched_is (effect_at plan.lines p s j i) none
    ]

hasnt-range : (n j : ℕ) → n ≤ j → has_id (ids_below n) j ≡ false
hasnt-range n j high = ap (λ (ids : List ℕ). has_id ids j) (sym (filter_every (λ k. true) 0 n (λ k low up. refl))) ∙ hasnt-filter (λ k. true) n j high

pub returns-then-has_one_membership : goal.returns-then-has_one_membership
returns-then-has_one_membership g c =
    let x = c.args.self.now in
    let s = c.requires in
    let slots = s.slots in record {
      clean = λ r j i few low_j low_i ne off.
          clean_at x.plan.now x.period (x.first + r) j i (c.unclean.ensures.clean j low_j off)
          (subst (λ (m : ℕ). x.first + r < slot_count m) (sym s.plan_rounds) (omega arith)) (subst (λ (n : ℕ). i < n) (sym s.plan_nodes) low_i) ne;
      same = λ j i on_j on_i off. c.has_one_membership.ensures c.if-has_one_membership.true j i on_j on_i;
      used = c.unclean.ensures.used;
    }

pub returns-else-has_one_membership : goal.returns-else-has_one_membership
returns-else-has_one_membership g c =
    let x = c.args.self.now in
    let s = c.requires in
    let all = c.full.ensures in
    let there = λ (j : ℕ) (low : j < x.config.now.nodes). ap (λ (ids : List ℕ). has_id ids j) all ∙ has-range 0 x.config.now.nodes j (omega arith) (omega arith) in record {
      clean = λ r j i few low_j low_i ne off. absurd (both_ways _ off (there j low_j));
      same = λ j i on_j on_i off. absurd (both_ways _ off (there j (s.awake j on_j)));
      used = λ j on. below_of x.config.now.nodes j (ap (λ (ids : List ℕ). has_id ids j) (sym all) ∙ on);
    }
