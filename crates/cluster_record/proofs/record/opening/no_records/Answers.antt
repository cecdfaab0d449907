use Rattle.std.proofs.Common.{ℕ, ◌+◌, length, ap, ◌∙◌, arith, inl, inr, lit<}
use Rattle.std.proofs.lemmas.List.{length_push}
use Rattle.cluster_record.proofs.record.opening.no_records.Goals as goal

pub loop-init : goal.loop-init
loop-init g c = ap length c.in_ok-records.ensures.items

pub loop-preserved : goal.loop-preserved
loop-preserved g c = ap length c.in_ok-push.ensures.items ∙ length_push c.loop.records.items c.cold.result ∙ ap (λ (n : ℕ). n + 1) c.loop.invariant

pub returns : goal.returns
returns g c = omega (arith, c.loop.invariant, c.loop.auto.counter-end, c.loop-test.false)

pub cold-requires : goal.cold-requires
cold-requires g c = elim g.bound-1.eight_or_sixteen [ inl e ↦ rw e (lit< tt) | inr e ↦ rw e (lit< tt) ]
