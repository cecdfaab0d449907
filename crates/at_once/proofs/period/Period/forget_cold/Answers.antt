use Rattle.std.proofs.Common.{ℕ, ℤ, ◌≡◌, ◌<◌, ◌+◌, false, true, List, Option, None, length, length-set, replicate, ap, sym, subst, ◌∙◌, inl, inr, lit<, arith}
use Rattle.node_grid.specs.NodeSet.{has_id}
use Rattle.agreed_state.specs.declared.config.Config.{Config}
use Rattle.at_once.specs.declared.keeping.Keeping.{Keeping}
use Rattle.at_once.specs.Ended.{AreForgetting}
use Rattle.at_once.proofs.Endings.{none_forgets, awake_keeps, cold_forgets}
use Rattle.at_once.proofs.period.Period.forget_cold.Goals.{then-not-has, else-not-has}
use Rattle.at_once.proofs.period.Period.forget_cold.Goals as goal

pub config-requires : goal.config-requires
config-requires g c = elim g.bound-1.eight_or_sixteen [ inl e ↦ rw e (lit< tt, lit< tt) | inr e ↦ rw e (lit< tt, lit< tt) ]

pub forget-requires : goal.forget-requires
forget-requires g c =
    let nodes = ap (λ (x : Config g.row.N). x.nodes) c.config.ensures.config in
    let few = c.config.ensures.scenario.system.config.few_nodes in
    let t = c.loop-i-test.true in
    (elim g.bound-1.eight_or_sixteen [ inl e ↦ rw e (lit< tt) | inr e ↦ rw e (lit< tt) ], omega (arith, nodes, few, t))

pub loop-i-init : goal.loop-i-init
loop-i-init g c = record { forgetting = none_forgets c.args.awake.now c.args.keeping.now (omega arith); owns = omega arith }

pub loop-i-preserved : goal.loop-i-preserved
loop-i-preserved g c =
    let i : ℕ = c.loop-i.i in
    let m = c.loop-i.invariant in
    let nodes = ap (λ (x : Config g.row.N). x.nodes) c.config.ensures.config in
    let few = c.config.ensures.scenario.system.config.few_nodes in
    let low : i < g.row.N = omega (arith, nodes, few, c.loop-i-test.true) in
    elim c.if-not-has.branch [
      | then-not-has w ↦
          let off : has_id c.args.awake.now i ≡ false = sym c.has.ensures ∙ w.if-not-has.true in
          let votes : length c.loop-i.keeping.votes ≡ g.row.N =
          sym (length-set c.loop-i.keeping.votes i (replicate 8 None)) ∙ sym (ap (λ (vs : List (List (Option ℤ))). length vs) w.forget.ensures.votes) ∙ w.forget.ensures.many in
          record {
            forgetting = subst (λ (l : Keeping g.row.N). AreForgetting c.args.awake.now c.args.keeping.now (i + 1) l) (sym w.keeping-is)
                (cold_forgets c.args.awake.now c.args.keeping.now i c.loop-i.keeping w.forget.new.self low votes m.owns
                w.forget.ensures.notes w.forget.ensures.votes w.forget.ensures.owns off m.forgetting);
            owns = ap (λ (l : Keeping g.row.N). length l.owns) w.keeping-is ∙ ap length w.forget.ensures.owns ∙ length-set c.loop-i.keeping.owns i _ ∙ m.owns;
          }
      | else-not-has w ↦
          let on : has_id c.args.awake.now i ≡ true = sym c.has.ensures ∙ w.if-not-has.false in
          record {
            forgetting = subst (λ (l : Keeping g.row.N). AreForgetting c.args.awake.now c.args.keeping.now (i + 1) l) (sym w.keeping-is)
                (awake_keeps c.args.awake.now c.args.keeping.now i c.loop-i.keeping on m.forgetting);
            owns = ap (λ (l : Keeping g.row.N). length l.owns) w.keeping-is ∙ m.owns;
          }
    ]

pub returns : goal.returns
returns g c =
    let nodes : c.config.result.now.nodes ≡ c.args.self.now.scenario.now.config.nodes = ap (λ (x : Config g.row.N). x.nodes) c.config.ensures.config in
    let end : c.loop-i.i ≡ c.args.self.now.scenario.now.config.nodes = omega (arith, nodes, c.loop-i-test.false, c.loop-i.auto.i-end) in
    subst (λ (i : ℕ). AreForgetting c.args.awake.now c.args.keeping.now i c.loop-i.keeping) end c.loop-i.invariant.forgetting
