use Rattle.std.proofs.lemmas.List.{replicate_more}
use Rattle.std.proofs.Common.{ℕ, List, ◌∷◌, ◌++◌, [], replicate, ap, ◌∙◌, arith}
use Rattle.relay_table.proofs.free.no_sets.Goals as goal

pub loop-init : goal.loop-init
loop-init g c = c.in_ok-sets.ensures.items

pub loop-preserved : goal.loop-preserved
loop-preserved g c =
    c.in_ok-push.ensures.items ∙ ap (λ (x : List ℕ). c.loop.sets.items ++ x ∷ []) c.empty.ensures ∙ ap (λ xs. xs ++ [] ∷ []) c.loop.invariant ∙ replicate_more {X = List ℕ} c.loop.counter []

pub returns : goal.returns
returns g c = c.loop.invariant ∙ ap (λ (n : ℕ). replicate n []) (omega (arith, c.loop-test.false, c.loop.auto.counter-end))
