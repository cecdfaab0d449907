use Rattle.std.proofs.Common.{◌≡◌, w64, ℕ, ℤ, Bool, List, arith, ap, sym, ◌∙◌}
use mir.Val.{SFits}
use Rattle.std.proofs.lemmas.Int.{to_z-of_z}
use Rattle.node_grid.specs.NodeSet.{ids_where_below, with_id}
use Rattle.node_grid.specs.NodeSetLaws.{ids_where-within, ids_where_none, ids_where_more_no, ids_where_more_yes}
use Rattle.mme_vote.specs.Channel.{delta_of}
use Rattle.protocol.specs.View.{is_far}
use Rattle.data_slot.specs.Told.{value_told}
use Rattle.told_values.proofs.votes.Held.nodes_far.Goals.{then-is_far, else-is_far}
use Rattle.told_values.proofs.votes.Held.nodes_far.Goals as goal

pub loop-node-init : goal.loop-node-init
loop-node-init g c = c.empty-far.ensures ∙ sym (ids_where_none (λ j. is_far (delta_of c.args.channel.now) (value_told c.args.self.now.told.now j c.args.c) c.args.vote) g.row.N)

pub loop-node-preserved : goal.loop-node-preserved
loop-node-preserved g c =
    let far : ℕ → Bool = λ j. is_far (delta_of c.args.channel.now) (value_told c.args.self.now.told.now j c.args.c) c.args.vote in
    let i : ℕ = c.loop-node.node in
    let fits : SFits w64 c.delta.result = record { sfits = c.delta.type_inv } in
    let here : c.is_far.result ≡ far i =
    c.is_far.ensures ∙ ap (λ (z : ℤ). is_far z (value_told c.args.self.now.told.now i c.args.c) c.args.vote) (to_z-of_z w64 c.delta.result fits ∙ c.delta.ensures) in
    elim c.if-is_far.branch [
      | then-is_far w ↦
          w.far-is ∙ w.put.ensures ∙ ap (λ (s : List ℕ). with_id g.row.N s i) c.loop-node.invariant ∙ sym (ids_where_more_yes far g.row.N i (sym here ∙ w.if-is_far.true))
      | else-is_far w ↦ w.far-is ∙ c.loop-node.invariant ∙ sym (ids_where_more_no far g.row.N i (sym here ∙ w.if-is_far.false))
    ]

pub returns : goal.returns
returns g c =
    let far : ℕ → Bool = λ j. is_far (delta_of c.args.channel.now) (value_told c.args.self.now.told.now j c.args.c) c.args.vote in
    let all : c.loop-node.node ≡ c.args.self.now.config.now.nodes = (let e = c.loop-node.auto.node-end in let t = c.loop-node-test.false in omega arith) in
    c.loop-node.invariant ∙ ap (λ (n : ℕ). ids_where_below far g.row.N n) all ∙ ids_where-within far g.row.N c.args.self.now.config.now.nodes c.args.self.now.few_nodes
