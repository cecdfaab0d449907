use Rattle.std.proofs.lemmas.List.{replicate_more, map-append}
use Rattle.std.proofs.Common.{ℕ, ◌∷◌, ◌++◌, [], map, replicate, ap, ap₂, ◌∙◌, arith}
use Rattle.omh_paths.specs.declared.wrapped.Wrapped.TheVariants.{Fault}
use Rattle.relay_terms.specs.Terms.{said}
use Rattle.relay_table.proofs.table.unheard.Goals as goal

pub loop-init : goal.loop-init
loop-init g c = ap (map said) c.in_ok-terms.ensures.items

pub loop-preserved : goal.loop-preserved
loop-preserved g c =
    ap (map said) c.in_ok-push.ensures.items ∙ map-append said c.loop.terms.items (c.nothing.result ∷ [])
    ∙ ap₂ (λ xs x. xs ++ x ∷ []) c.loop.invariant c.nothing.ensures ∙ replicate_more c.loop.counter (Fault 0)

pub returns : goal.returns
returns g c = c.loop.invariant ∙ ap (λ (n : ℕ). replicate n (Fault 0)) (omega (arith, c.loop-test.false, c.loop.auto.counter-end))
