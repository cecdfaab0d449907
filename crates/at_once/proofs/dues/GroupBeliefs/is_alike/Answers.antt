use Rattle.std.proofs.Common.{ℕ, sym, ap, ◌∙◌, inl, inr, lit<}
use Rattle.std.specs.Prelude.{slice_index_or}
use Rattle.std.proofs.lemmas.Slice.Eq.{bytes_eq-Decides}
use Rattle.at_once.specs.Values.{no_belief}
use Rattle.at_once.proofs.dues.GroupBeliefs.is_alike.Goals as goal

pub returns-then-of : goal.returns-then-of
returns-then-of g c = λ yes. ap (λ (f : ℕ). (slice_index_or c.args.self.now.beliefs.now f no_belief).due.items) (sym c.of.ensures.first ∙ c.if-of.true ∙ c.of-2.ensures.first)

pub returns : goal.returns
returns g c = λ yes. sym c.due.ensures ∙ (bytes_eq-Decides c.due.result.now c.due-2.result.now).0 (sym c.eq.ensures ∙ yes) ∙ c.due-2.ensures

pub of-requires : goal.of-requires
of-requires g c = (elim g.bound-1.eight_or_sixteen [ inl e ↦ rw e (lit< tt) | inr e ↦ rw e (lit< tt) ], c.requires.first)

pub of-requires-2 : goal.of-requires-2
of-requires-2 g c = (elim g.bound-1.eight_or_sixteen [ inl e ↦ rw e (lit< tt) | inr e ↦ rw e (lit< tt) ], c.requires.second)
