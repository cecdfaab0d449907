use Rattle.std.proofs.Common.{ℕ, ◌++◌, ◌∷◌, [], List, ap₂, sym, ◌∙◌, arith}
use Rattle.std.proofs.lemmas.List.{take_more, take_more_set, length-set}
use Rattle.worked_chains.proofs.lies.nodes_of.Goals as goal

pub loop-k-preserved : goal.loop-k-preserved
loop-k-preserved c =
    let i = c.loop-k.invariant in
    let count = c.len-k-end.ensures.count in
    let few = c.len-k-end.ensures.few in
    let more = c.loop-k-test.true in
    record {
      long = length-set c.loop-k.nodes c.loop-k.k c.at.result ∙ i.long;
      copied = take_more_set c.loop-k.nodes c.loop-k.k c.at.result (omega (arith, few, more, i.long))
          ∙ ap₂ (λ (xs : List ℕ) (q : ℕ). xs ++ q ∷ []) i.copied c.at.ensures
          ∙ sym (take_more c.args.path.now c.loop-k.k 0 (omega (arith, more, count)));
    }
