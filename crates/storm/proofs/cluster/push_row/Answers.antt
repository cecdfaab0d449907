use Rattle.std.proofs.Common.{ℤ, List, Vec, Global, ap, ◌∙◌, map, ◌++◌, ◌∷◌, []}
use Rattle.std.proofs.lemmas.List.{map-append}
use Rattle.storm.proofs.cluster.push_row.Goals as goal

pub returns : goal.returns
returns c =
    let before = c.args.rows.now.items in
    let one = c.in_ok-from_slice.field-0 in
    let items = λ (r : Vec ℤ Global). r.items in
    ap (map items) c.in_ok-push.ensures.items
    ∙ map-append items before (one ∷ [])
    ∙ ap (λ (row : List ℤ). map items before ++ row ∷ []) c.in_ok-from_slice.ensures.items
