use Rattle.std.proofs.Common.{ℕ, ◌≡◌, ◌≤◌, ◌+◌, ◌++◌, ◌∷◌, List, [], replicate, ap, ◌∙◌, arith}
use Rattle.std.proofs.lemmas.List.{replicate_more}
use Rattle.std.proofs.lemmas.Result.{IfOk-from_err}
use Rattle.node_grid.specs.NumberFacts.{fewer_left}
use Rattle.heard_links.proofs.table.places.Goals as goal

grown : {T : Type 0} (x : T) (was new : List T) (k : ℕ) → was ≡ replicate k x → new ≡ was ++ x ∷ [] → new ≡ replicate (k + 1) x
grown x was new k e p = p ∙ ap (λ xs. xs ++ x ∷ []) e ∙ replicate_more k x

whole : {T : Type 0} (x : T) (was : List T) (k n : ℕ) → was ≡ replicate k x → k ≤ n → n ≤ k → was ≡ replicate n x
whole x was k n e a b = let full : k ≡ n = omega arith in e ∙ ap (λ i. replicate i x) full

pub returns-in_err-values : goal.returns-in_err-values
returns-in_err-values g c = IfOk-from_err c.from_residual.result _ c.from_residual.ensures.0

pub loop-init : goal.loop-init
loop-init g c = c.in_ok-values.ensures.items

pub returns-in_err-push : goal.returns-in_err-push
returns-in_err-push g c = IfOk-from_err c.from_residual-in_err-push.result _ c.from_residual-in_err-push.ensures.0

pub loop-preserved : goal.loop-preserved
loop-preserved g c = grown c.args.value c.loop.values.items c.push.new.self.items c.loop.counter c.loop.invariant c.in_ok-push.ensures.items

pub loop-smaller : goal.loop-smaller
loop-smaller g c = fewer_left c.args.len c.loop.counter c.loop-test.true

pub returns : goal.returns
returns g c = whole c.args.value c.loop.values.items c.loop.counter c.args.len c.loop.invariant c.loop.auto.counter-end c.loop-test.false
