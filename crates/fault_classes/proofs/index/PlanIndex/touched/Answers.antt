use Rattle.std.proofs.Common.{◌≡◌, ◌<◌, [], map, length, get_or, not, ap, ◌∙◌, arith}
use Rattle.std.proofs.lemmas.List.{get_or_read}
use Rattle.node_grid.specs.NodeSet.{ids_where}
use Rattle.node_grid.specs.NodeSetLaws.{filter_range}
use Rattle.fault_classes.specs.Line.{line_of}
use Rattle.fault_classes.specs.Plan.{Plan, plan_of, is_clean}
use Rattle.fault_classes.proofs.Refusals.{lines_good}
use Rattle.fault_classes.proofs.Sending.{soiled_is}
use Rattle.fault_classes.proofs.index.PlanIndex.touched.Goals as goal

pub returns : goal.returns
returns g c =
    let x = c.self.inside in
    let p = c.args.period in
    let plan : Plan = c.args.self.now in
    let inside : Plan = plan_of x.shape.nodes x.rounds x.shape.periods (map line_of x.lines.items) x.restarts.items in
    let set = c.index.result.now in
    let periods : x.shape.periods ≡ plan.periods = ap (λ (q : Plan). q.periods) c.self.view_is in
    let within : p < length x.touches.senders.items = omega (arith, c.self.invariant.touched.senders.long) in
    let read : set ≡ get_or x.touches.senders.items p [] = get_or_read x.touches.senders.items p set within c.index.ensures [] in
    let members = c.self.invariant.touched.senders.members p (omega arith) in
    read ∙ members ∙ filter_range _ _ 0 g.row.N (λ k low up. soiled_is inside p k (lines_good inside c.self.invariant.accepted)) ∙ ap (λ (q : Plan). ids_where (λ i. not (is_clean q p i)) g.row.N) c.self.view_is
