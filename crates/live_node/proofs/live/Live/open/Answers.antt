use Rattle.std.proofs.Common.{inl, inr, lit<, length, ap, ◌∙◌}
use Rattle.std.proofs.lemmas.List.{length-replicate}
use Rattle.live_node.proofs.Taking.{half_holds}
use Rattle.live_node.proofs.live.Live.open.Goals as goal

pub open-requires : goal.open-requires
open-requires g c =
    (elim g.bound-1.eight_or_sixteen [ inl e ↦ rw e (lit< tt) | inr e ↦ rw e (lit< tt) ], (elim g.bound-1.eight_or_sixteen [ inl e ↦ rw e (lit< tt) | inr e ↦ rw e (lit< tt) ], c.requires.id))

pub invariant_of-result : goal.invariant_of-result
invariant_of-result g c =
    half_holds c.args.longest _ _ (ap length (c.in-Ok.ensures.items_if_clones_equal (λ y same. same)) ∙ length-replicate _ _)
    c.in_ok-node.ensures.longest
