use Rattle.std.proofs.Common.{ℕ, ◌≡◌, ◌*◌, zero, suc, List, length, replicate, slice_index_or, refl, ap, ap₂, ◌∙◌, inl, inr, rules}
use Rattle.std.proofs.lemmas.List.{length-replicate}
use Rattle.heard_links.proofs.links.Links.open.Goals as goal

alone : {V : Type 0} (n j : ℕ) (v : V) → slice_index_or (replicate n v) j v ≡ v
alone zero j v = refl
alone (suc n) zero v = refl
alone (suc n) (suc j) v = alone n j v

pub overflow_mul-places : goal.overflow_mul-places
overflow_mul-places g c = elim g.bound-6.eight_or_sixteen [ inl e ↦ rw e (search rules) | inr e ↦ rw e (search rules) ]

pub overflow_mul-places-2 : goal.overflow_mul-places-2
overflow_mul-places-2 g c = elim g.bound-6.eight_or_sixteen [ inl e ↦ rw e (search rules) | inr e ↦ rw e (search rules) ]

pub invariant_of-result : goal.invariant_of-result
invariant_of-result g c = record {
  told_room = ap length c.in-Ok.ensures ∙ length-replicate g.row.N _;
  came_room = ap length c.in-Ok-places.ensures ∙ length-replicate (4 * (g.row.N * g.row.N)) _;
}

pub returns : goal.returns
returns g c = λ j. ap₂ (λ (vs : List g.row.V.Denot) (v : g.row.V.Denot). slice_index_or vs j v) c.in-Ok.ensures c.in-Ok-new.ensures.ok ∙ alone g.row.N j c.args.blank
