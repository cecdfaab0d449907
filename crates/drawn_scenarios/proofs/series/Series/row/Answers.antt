use Rattle.std.proofs.Common.{ℤ, List, [], ◌∷◌, ◌++◌, sym, ap₂, ◌∙◌, arith, rules, w64, to_z-of_z}
use Rattle.std.specs.Prelude.{FitsSigned}
use Rattle.std.proofs.lemmas.List.FromFn.{map-range_with_len_more}
use Rattle.drawn_scenarios.specs.Series.{number_at}
use Rattle.drawn_scenarios.proofs.series.Series.row.Goals as goal

pub loop-node-preserved : goal.loop-node-preserved
loop-node-preserved c =
    let fits : FitsSigned w64 c.at.result = search rules in
    let pushed = simp to_z-of_z at c.in_ok-push.ensures.items in
    pushed ∙ ap₂ (λ (xs : List ℤ) (z : ℤ). xs ++ z ∷ []) c.loop-node.invariant c.at.ensures
    ∙ sym (map-range_with_len_more (number_at c.args.self c.args.row) 0 c.loop-node.node c.loop-node.node (omega arith))
