use Rattle.std.proofs.Common.{◌≡◌, ◌||◌, ℕ, List, true, false, sym, ap, ◌∙◌, arith, inl, inr, eq-eqb, ne_eqb}
use Rattle.std.proofs.lemmas.Bool.{cases_eq}
use Rattle.node_grid.specs.NodeSet.{has_id, with_id}
use Rattle.node_grid.specs.NodeSetLaws.{has-with_id}
use Rattle.fault_classes.specs.Line.{effect_at}
use Rattle.heard_states.proofs.Clean.{clean_slot}
use Rattle.heard_states.proofs.slot.SyncSlot.touched.Goals.{then-not-clean+then-touches, else-not-clean, else-not-clean-via-then-not-clean+else-touches, else-not-clean-via-else-not-clean}
use Rattle.heard_states.proofs.slot.SyncSlot.touched.Goals as goal

pub loop-from-preserved : goal.loop-from-preserved
loop-from-preserved g c = λ j i within used other off.
    let n = g.row.N in
    let k = c.loop-from.from in
    let slot = c.args.self.now in
    let few = c.requires.config.few_nodes in
    let was = c.loop-from.invariant in
    elim c.if-not-clean.branch [
      | then-not-clean+then-touches w ↦
          let now : has_id (with_id n c.loop-from.touched k) j ≡ false = sym (ap (λ (s : List ℕ). has_id s j) (w.touched-is ∙ w.put.ensures)) ∙ off in
          let is = has-with_id n c.loop-from.touched k j (let t = c.loop-from-test.true in omega arith) in
          elim (cases_eq j k) [
            | inl e ↦ absurd (let z : false ≡ true = sym now ∙ is ∙ ap (λ b. b || has_id c.loop-from.touched j) (eq-eqb j k e) in cc)
            | inr ne ↦ was j i (omega arith) used other (sym (ap (λ b. b || has_id c.loop-from.touched j) (ne_eqb j k ne)) ∙ sym is ∙ now)
          ]
      | else-not-clean w ↦
          let gone : has_id c.loop-from.touched j ≡ false = sym (ap (λ (s : List ℕ). has_id s j) w.touched-is) ∙ off in
          elim (cases_eq j k) [
            | inl e ↦
                ap (λ q. effect_at slot.plan.now.lines slot.period 0 q i) e
                ∙ elim w.else-not-clean.branch [
                  | else-not-clean-via-then-not-clean+else-touches v ↦ v.touches.ensures v.if-touches.false i used (λ q. other (e ∙ q))
                  | else-not-clean-via-else-not-clean v ↦ clean_slot slot.plan.now slot.period k i (let t = c.requires.nodes in omega arith) (sym c.clean.ensures ∙ v.if-not-clean.false) (λ q. other (e ∙ sym q))
                ]
            | inr ne ↦ was j i (omega arith) used other gone
          ]
    ]
