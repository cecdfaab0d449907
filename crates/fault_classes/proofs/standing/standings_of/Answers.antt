use Rattle.std.proofs.Common.{ℕ, ◌≡◌, suc, ◌+◌, ◌++◌, ◌∷◌, [], length, get_or, refl, sym, ap, ◌∙◌, arith, inl, inr, subst, ◌≤◌, lit<}
use Rattle.std.proofs.lemmas.Bool.{cases_lt}
use Rattle.std.proofs.lemmas.List.{get_or_append_left, get_or_push, length_push}
use Rattle.node_grid.specs.NodeSet.{ids_where, ids_below}
use Rattle.node_grid.specs.NumberFacts.{fewer_left}
use Rattle.fault_classes.specs.Plan.{Plan, sound_before}
use Rattle.fault_classes.specs.declared.standing.Standing.{Standing}
use Rattle.fault_classes.specs.Standing.{IsStanding}
use Rattle.fault_classes.proofs.Sets.{every_where}
use Rattle.node_grid.specs.CapacityLaws.{capacity-le}
use Rattle.fault_classes.proofs.standing.standings_of.Goals as goal

-- a standing under the plan of the lines and in their period
standing_of : {n : ℕ} (plan : Plan) (p : ℕ) (of_plan : Plan) (of_period : ℕ) (x : Standing n) → of_plan ≡ plan → of_period ≡ p → IsStanding of_plan of_period x → IsStanding plan p x
standing_of plan p of_plan of_period x e f is = subst (λ (q : Plan). IsStanding q p x) e (subst (λ (k : ℕ). IsStanding of_plan k x) f is)

pub loop-period-init : goal.loop-period-init
unfolding sound_before
loop-period-init g c = record {
  before = c.full-before.ensures ∙ ap ids_below c.nodes.ensures.nodes ∙ every_where (sound_before c.args.index.now 0) c.args.index.now.nodes (λ k h. refl);
  long = ap length c.in_ok-standings.ensures.items;
  each = λ p d h. absurd (omega arith);
}

pub loop-period-preserved : goal.loop-period-preserved
loop-period-preserved g c =
    let plan = c.args.index.now in
    let k = c.loop-period.period in
    let xs = c.loop-period.standings.items in
    let x = c.standing-standing.result in
    let next : suc k ≡ k + 1 = omega arith in
    let items : c.push.new.self.items ≡ xs ++ x ∷ [] = c.in_ok-push.ensures.items in
    record {
      before = c.sound_nodes-before.ensures ∙ ap (λ q. ids_where (sound_before plan q) plan.nodes) next;
      long = ap length items ∙ length_push xs x ∙ ap (λ q. q + 1) c.loop-period.invariant.long;
      each = λ p d h. elim (cases_lt p k) [
        | inl low ↦
            let same : get_or c.push.new.self.items p d ≡ get_or xs p d = ap (λ ys. get_or ys p d) items ∙ get_or_append_left xs (x ∷ []) d p (omega (arith, c.loop-period.invariant.long)) in
            subst (IsStanding plan p) (sym same) (c.loop-period.invariant.each p d low)
        | inr high ↦
            let here : k ≡ p = omega arith in
            let same : get_or c.push.new.self.items p d ≡ x = ap (λ ys. get_or ys p d) items ∙ get_or_push xs x d p (c.loop-period.invariant.long ∙ here) in
            subst (IsStanding plan p) (sym same) (subst (λ q. IsStanding plan q x) here (standing_of plan k c.of.result.index.now c.of.result.period x c.of.ensures.index c.of.ensures.period c.standing-standing.ensures))
      ];
    }

pub full-before-requires : goal.full-before-requires
full-before-requires g c = (lit< tt, (capacity-le g.row.N c.nodes.ensures.shape.capacity, subst (λ n. n ≤ g.row.N) (sym c.nodes.ensures.nodes) c.nodes.ensures.shape.few_nodes))

pub loop-period-smaller : goal.loop-period-smaller
loop-period-smaller g c = fewer_left c.periods-period-end.result c.loop-period.period c.loop-period-test.true
