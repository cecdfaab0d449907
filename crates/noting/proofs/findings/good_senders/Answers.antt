use Rattle.std.proofs.Common.{◌≡◌, ◌&&◌, ◌==◌, not, Bool, ℕ, arith, sym, ap, ◌∙◌}
use Rattle.node_grid.specs.NodeSet.{with_id, ids_where_below}
use Rattle.node_grid.specs.NodeSetLaws.{ids_where_more_yes, ids_where_more_no, ids_where-within}
use Rattle.error_detect.specs.Finding.{is_good_at}
use Rattle.noting.proofs.findings.good_senders.Goals as goal
use Rattle.noting.proofs.findings.good_senders.Goals.{then-is_good_sender, else-is_good_sender}

pub loop-node-preserved : goal.loop-node-preserved
loop-node-preserved g c =
    let passes : ℕ → Bool = λ j. not (j == c.args.me) && is_good_at c.args.found.now j in
    elim c.if-is_good_sender.branch [
      | then-is_good_sender w ↦
          w.good-is ∙ w.put.ensures ∙ ap (λ s. with_id g.row.N s c.loop-node.node) c.loop-node.invariant
          ∙ sym (ids_where_more_yes passes g.row.N c.loop-node.node (sym c.is_good_sender.ensures ∙ w.if-is_good_sender.true))
      | else-is_good_sender w ↦
          w.good-is ∙ c.loop-node.invariant ∙ sym (ids_where_more_no passes g.row.N c.loop-node.node (sym c.is_good_sender.ensures ∙ w.if-is_good_sender.false))
    ]

pub returns : goal.returns
returns g c =
    let passes : ℕ → Bool = λ j. not (j == c.args.me) && is_good_at c.args.found.now j in
    let all : c.loop-node.node ≡ c.args.nodes = (let e = c.loop-node.auto.node-end in let t = c.loop-node-test.false in omega arith) in
    c.loop-node.invariant ∙ ap (λ (n : ℕ). ids_where_below passes g.row.N n) all ∙ ids_where-within passes g.row.N c.args.nodes c.requires.few
