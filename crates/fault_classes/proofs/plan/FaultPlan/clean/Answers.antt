use Rattle.std.proofs.Common.{◌≡◌, ◌<◌, ◌∙◌, ap, arith}
use Rattle.node_grid.specs.NodeSet.{ids_where}
use Rattle.fault_classes.specs.Plan.{Plan, is_clean}
use Rattle.fault_classes.specs.declared.standing.Standing.{Standing}
use Rattle.fault_classes.proofs.Sets.{has_in}
use Rattle.fault_classes.proofs.plan.FaultPlan.clean.Goals as goal

pub returns : goal.returns
returns g c =
    let p = c.args.period in
    let j = c.args.node in
    let plan : Plan = c.self.inside.index in
    let same : plan ≡ c.args.self.now = c.self.view_is in
    let r : Standing g.row.N = c.index-standing.result.now in
    let run : p < plan.periods = omega (arith, ap (λ (q : Plan). q.periods) same, c.requires.period) in
    let low : j < plan.nodes = omega (arith, ap (λ (q : Plan). q.nodes) same, c.requires.node) in
    let read : r.clean ≡ ids_where (is_clean plan p) plan.nodes = ap (λ (s : Standing g.row.N). s.clean) c.index-standing.ensures ∙ (c.self.invariant.1.each p r run).unharmed in
    c.has.ensures ∙ has_in r.clean (is_clean plan p) plan.nodes j read low ∙ ap (λ (q : Plan). is_clean q p j) same
