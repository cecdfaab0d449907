use Rattle.std.proofs.Common.{ℕ, List, ap, ap₂, ◌∙◌}
use Rattle.std.proofs.lemmas.List.{take_all}
use Rattle.node_grid.specs.NodeSet.{ids_where, union_of}
use Rattle.data_slot.specs.Votes.{is_off}
use Rattle.told_values.proofs.Deviating.{none_off, off_more}
use Rattle.told_values.proofs.votes.Held.nodes_off.Goals as goal

pub loop-k-init : goal.loop-k-init
loop-k-init g c = c.empty-off.ensures ∙ none_off c.args.self.now.config.now c.args.self.now.told.now c.args.self.now.votes.now

pub loop-k-preserved : goal.loop-k-preserved
loop-k-preserved g c =
    c.union-off.ensures
    ∙ ap₂ (union_of g.row.N) c.loop-k.invariant c.nodes_off_on.ensures
    ∙ off_more c.args.self.now.config.now c.args.self.now.told.now c.args.self.now.votes.now c.args.due.now c.loop-k.k c.loop-k-test.true c.args.self.now.few_nodes

pub returns : goal.returns
returns g c =
    c.loop-k.invariant
    ∙ ap (λ (ds : List ℕ). ids_where (is_off c.args.self.now.config.now ds c.args.self.now.told.now c.args.self.now.votes.now) c.args.self.now.config.now.nodes) (take_all c.loop-k.k c.args.due.now c.loop-k-test.false)
