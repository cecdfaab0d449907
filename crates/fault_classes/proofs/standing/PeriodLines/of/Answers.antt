use Rattle.std.proofs.Common.{List, ℕ, not, ap, ap₂, ◌∙◌, arith}
use Rattle.std.proofs.Math.Bool.{not-not}
use Rattle.node_grid.specs.NodeSet.{ids_below, minus_of}
use Rattle.node_grid.specs.NodeSetLaws.{filter_range, has-filter}
use Rattle.fault_classes.specs.Plan.{is_clean}
use Rattle.fault_classes.proofs.standing.PeriodLines.of.Goals as goal

pub invariant_of-result-clause-unharmed : goal.invariant_of-result-clause-unharmed
invariant_of-result-clause-unharmed g c =
    let plan = c.args.index.now in
    let p = c.args.period in
    c.minus-clean.ensures ∙ ap₂ (λ (s t : List ℕ). minus_of s t) (c.full-all.ensures ∙ ap ids_below c.nodes.ensures.nodes) c.touched.ensures
    ∙ filter_range _ _ 0 plan.nodes (λ k low up. ap not (has-filter (λ i. not (is_clean plan p i)) g.row.N k (omega (arith, c.nodes.ensures.shape.few_nodes))) ∙ not-not (is_clean plan p k))
