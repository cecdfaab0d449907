use Rattle.std.proofs.Common.{◌≡◌, ℕ, ◌+◌, Bool, not, arith, ap, ◌∙◌, List, sym}
use Rattle.node_grid.specs.NodeSet.{ids_where_below, with_id}
use Rattle.node_grid.specs.NodeSetLaws.{ids_where-within, ids_where_more_no, ids_where_more_yes}
use Rattle.fault_classes.specs.Change.{is_untouched}
use Rattle.fault_classes.specs.Plan.{each_in_slot}
use Rattle.told_values.proofs.slot.touched_senders.Goals as goal
use Rattle.told_values.proofs.slot.touched_senders.Goals.{then-touches, else-touches}

pub overflow_add-talk : goal.overflow_add-talk
overflow_add-talk g c = let few = c.line_count.ensures.plan.few_rounds in let r = c.requires.rounds in omega arith

pub returns : goal.returns
returns g c =
    let odd : ℕ → Bool = λ j. not (each_in_slot c.args.plan.now is_untouched c.args.period j (c.args.config.now.m + 2)) in
    let all : c.loop-from.from ≡ c.args.config.now.nodes = (let e = c.loop-from.auto.from-end in let t = c.loop-from-test.false in omega arith) in
    c.loop-from.invariant ∙ ap (λ (n : ℕ). ids_where_below odd g.row.N n) all ∙ ids_where-within odd g.row.N c.args.config.now.nodes (let few = c.line_count.ensures.plan.few_nodes in let n = c.requires.nodes in omega arith)

pub loop-from-preserved : goal.loop-from-preserved
loop-from-preserved g c =
    let odd : ℕ → Bool = λ j. not (each_in_slot c.args.plan.now is_untouched c.args.period j (c.args.config.now.m + 2)) in
    let i : ℕ = c.loop-from.from in
    elim c.if-touches.branch [
      | then-touches w ↦
          w.touched-is ∙ w.put.ensures ∙ ap (λ (s : List ℕ). with_id g.row.N s i) c.loop-from.invariant ∙ sym (ids_where_more_yes odd g.row.N i (sym c.touches.ensures ∙ w.if-touches.true))
      | else-touches w ↦ w.touched-is ∙ c.loop-from.invariant ∙ sym (ids_where_more_no odd g.row.N i (sym c.touches.ensures ∙ w.if-touches.false))
    ]
