use Rattle.std.proofs.Common.{◌≡◌, ℕ, zero, suc, List, [], ◌∷◌, drop, slice_get, refl, ap, ◌∙◌, arith}
use Rattle.std.proofs.lemmas.List.{drop-drop}
use Rattle.node_grid.proofs.node_set.NodeSet.nth.Goals as goal

first_dropped : (n : ℕ) (xs : List ℕ) → slice_get (drop n xs) 0 ≡ slice_get xs n
first_dropped zero xs = refl
first_dropped (suc n) [] = refl
first_dropped (suc n) (x ∷ xs) = first_dropped n xs

pub loop-preserved : goal.loop-preserved
loop-preserved g c = c.rest-left.ensures ∙ ap (λ s. drop 1 s) c.loop.invariant ∙ drop-drop 1 c.loop.counter c.args.self.now

pub returns-clause-node : goal.returns-clause-node
returns-clause-node g c =
    let all : c.loop.counter ≡ c.args.place = omega (arith, c.loop-test.false, c.loop.auto.counter-end) in
    c.least.ensures.first ∙ ap (λ s. slice_get s 0) c.loop.invariant ∙ first_dropped c.loop.counter c.args.self.now ∙ ap (λ k. slice_get c.args.self.now k) all
