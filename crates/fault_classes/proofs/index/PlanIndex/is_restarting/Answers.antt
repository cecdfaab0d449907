use Rattle.std.proofs.Common.{◌≡◌, ◌<◌, [], length, get_or, ap, ◌∙◌, arith}
use Rattle.std.proofs.lemmas.List.{get_or_read}
use Rattle.node_grid.specs.NodeSet.{has_id}
use Rattle.node_grid.specs.NodeSetLaws.{has-filter}
use Rattle.fault_classes.specs.Plan.{Plan, restarts_at}
use Rattle.fault_classes.proofs.index.PlanIndex.is_restarting.Goals as goal

pub returns : goal.returns
returns g c =
    let x = c.self.inside in
    let i = c.args.node in
    let p = c.args.period in
    let plan : Plan = c.args.self.now in
    let set = c.index-set.result.now in
    let nodes : x.shape.nodes ≡ plan.nodes = ap (λ (q : Plan). q.nodes) c.self.view_is in
    let periods : x.shape.periods ≡ plan.periods = ap (λ (q : Plan). q.periods) c.self.view_is in
    let within : p < length x.restarting.items = omega (arith, c.self.invariant.restarting.long) in
    let read : set ≡ get_or x.restarting.items p [] = get_or_read x.restarting.items p set within c.index-set.ensures [] in
    let low : i < g.row.N = omega (arith, c.self.invariant.shape.few_nodes) in
    c.has.ensures ∙ ap (λ s. has_id s i) (read ∙ c.self.invariant.restarting.members p (omega arith)) ∙ has-filter _ g.row.N i low ∙ ap (λ (q : Plan). restarts_at q i p) c.self.view_is
