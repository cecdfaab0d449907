use Rattle.std.proofs.Common.{◌≡◌, ℤ, List, [], ◌∷◌, ◌++◌, pos, sym, ap₂, ◌∙◌, arith, to_z, of_z, w64}
use Rattle.std.proofs.lemmas.Int.{ints}
use Rattle.std.proofs.lemmas.List.FromFn.{map-range_with_len_more}
use Rattle.drawn_scenarios.proofs.cluster.first_nodes.Goals as goal

pub loop-node-preserved : goal.loop-node-preserved
loop-node-preserved c =
    let value : to_z w64 (of_z w64 c.from.result) ≡ pos c.loop-node.node = omega (arith, ints) in
    c.in_ok-push.ensures.items ∙ ap₂ (λ (xs : List ℤ) (z : ℤ). xs ++ z ∷ []) c.loop-node.invariant value ∙ sym (map-range_with_len_more pos 0 c.loop-node.node c.loop-node.node (omega arith))
