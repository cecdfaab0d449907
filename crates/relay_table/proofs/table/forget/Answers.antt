use Rattle.std.proofs.Common.{length, replicate, arith}
use Rattle.std.proofs.lemmas.List.{get_or-replicate, length-replicate}
use Rattle.omh_paths.specs.declared.wrapped.Wrapped.{Wrapped}
use Rattle.omh_paths.specs.declared.wrapped.Wrapped.TheVariants.{Fault}
use Rattle.relay_table.proofs.Filling.{set_more, set_all}
use Rattle.relay_table.proofs.table.forget.Goals as goal

pub loop-k-preserved : goal.loop-k-preserved
loop-k-preserved g c = set_more (λ i. Fault 0) c.loop-k.terms c.loop-k.k c.nothing.result (omega (arith, c.loop-k.auto.terms, c.loop-k-test.true)) c.nothing.ensures c.loop-k.invariant

pub returns : goal.returns
returns g c =
    let n = length c.args.terms.now in
    let none : Wrapped g.row.V.Denot = Fault 0 in
    let many = length-replicate n none in
    set_all (λ i. Fault 0) c.loop-k.terms c.loop-k.k (replicate n none) (omega (arith, many, c.loop-k.auto.terms)) (omega (arith, c.loop-k.auto.terms, c.loop-k-test.false)) c.loop-k.invariant
    (λ i low. get_or-replicate n i none none (omega (arith, many)))
