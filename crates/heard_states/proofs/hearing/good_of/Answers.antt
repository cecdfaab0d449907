use Rattle.std.proofs.Common.{◌≡◌, ◌&&◌, ◌==◌, not, ℕ, Bool, true, false, get_or, sym, ap, ◌∙◌, arith, eq-eqb, ne_eqb}
use Rattle.std.proofs.Math.Bool.{and-false}
use Rattle.std.proofs.lemmas.Bool.{and_from}
use Rattle.node_grid.specs.NodeSet.{with_id, ids_where}
use Rattle.node_grid.specs.NodeSetLaws.{ids_where_more_yes, ids_where_more_no, ids_where-within}
use Rattle.heard_states.specs.Hearing.{is_heard_well}
use Rattle.heard_states.specs.declared.hearing.Heard.TheVariants.{Bad}
use Rattle.heard_states.proofs.hearing.good_of.Goals.{then-from-to+then-is_good, else-from-to, else-from-to-via-then-from-to+else-is_good, else-from-to-via-else-from-to}
use Rattle.heard_states.proofs.hearing.good_of.Goals as goal

pub loop-from-preserved : goal.loop-from-preserved
loop-from-preserved g c =
    let n = g.row.N in
    let i = c.loop-from.from in
    let well : ℕ → Bool = λ j. is_heard_well (get_or c.args.heard.now j (Bad 0)) in
    let p : ℕ → Bool = λ j. not (j == c.args.to) && well j in
    elim c.if-from-to.branch [
      | then-from-to+then-is_good w ↦
          let yes' : p i ≡ true = and_from (not (i == c.args.to)) (well i) (ap not (ne_eqb i c.args.to w.if-from-to.true)) (sym w.is_good.ensures ∙ w.if-is_good.true) in
          w.good-is ∙ w.put.ensures ∙ ap (λ s. with_id n s i) c.loop-from.invariant ∙ sym (ids_where_more_yes p n i yes')
      | else-from-to w ↦
          let no' : p i ≡ false = elim w.else-from-to.branch [
            | else-from-to-via-then-from-to+else-is_good v ↦ ap (λ b. not (i == c.args.to) && b) (sym v.is_good.ensures ∙ v.if-is_good.false) ∙ and-false (not (i == c.args.to))
            | else-from-to-via-else-from-to v ↦ ap (λ b. not b && well i) (eq-eqb i c.args.to v.if-from-to.false)
          ] in
          w.good-is ∙ c.loop-from.invariant ∙ sym (ids_where_more_no p n i no')
    ]

pub returns : goal.returns
returns g c =
    let p : ℕ → Bool = λ j. not (j == c.args.to) && is_heard_well (get_or c.args.heard.now j (Bad 0)) in
    let end : c.loop-from.from ≡ c.args.nodes = omega (arith, c.loop-from-test.false, c.loop-from.auto.from-end) in
    c.loop-from.invariant ∙ ids_where-within p g.row.N c.loop-from.from (omega (arith, end, c.requires.nodes)) ∙ ap (λ k. ids_where p k) end
