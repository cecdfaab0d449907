use Rattle.std.proofs.Common.{ℤ, List, [], ◌∷◌, ◌++◌, Vec, Global, map, sym, ap, ap₂, ◌∙◌, arith}
use Rattle.std.proofs.lemmas.List.{map-append}
use Rattle.std.proofs.lemmas.List.FromFn.{map-range_with_len_more}
use Rattle.drawn_scenarios.specs.Series.{row}
use Rattle.drawn_scenarios.proofs.series.Series.three_rows.Goals as goal

pub loop-row-preserved : goal.loop-row-preserved
loop-row-preserved c =
    let items = λ (r : Vec ℤ Global). r.items in
    ap (map items) c.in_ok-push.ensures.items ∙ map-append items c.loop-row.rows.items (c.in_ok-row.field-0 ∷ [])
    ∙ ap₂ (λ (xs : List (List ℤ)) (x : List ℤ). xs ++ x ∷ []) c.loop-row.invariant c.in_ok-row.ensures
    ∙ sym (map-range_with_len_more (row c.args.self c.args.nodes) 0 c.loop-row.row c.loop-row.row (omega arith))
