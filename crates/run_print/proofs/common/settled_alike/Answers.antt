use mathlib.Core.List.{not-mem-nil}
use Rattle.std.proofs.Common.{refl, sym, ◌∙◌, inl, inr, lit<}
use Rattle.node_grid.specs.ListFacts.{votes_same}
use Rattle.run_print.proofs.Alike.{told, numbers_same, rows_same, claims_same}
use Rattle.run_print.proofs.common.settled_alike.Goals as goal

pub returns : goal.returns
returns g c e = rw (sym c.one.view_is, sym c.other.view_is) (record {
  members = numbers_same _ _ (told _ _ c.ne.ensures c.if-ne.false);
  rows = rows_same _ (λ x y. refl) c.one.inside.rows c.other.inside.rows (told _ _ c.ne-2.ensures c.if-ne-2.false);
  done = claims_same _ (λ a b. refl) (λ a b. refl) (λ a b. refl) (λ a b. refl) c.one.inside.done c.other.inside.done (told _ _ c.ne-3.ensures c.if-ne-3.false);
  due = sym c.as_slice.ensures.value ∙ numbers_same _ _ (told _ _ c.ne-4.ensures c.if-ne-4.false) ∙ c.as_slice-2.ensures.value;
  votes = votes_same c.one.inside.votes c.other.inside.votes (sym c.eq.ensures ∙ e);
})

pub ne-requires : goal.ne-requires
ne-requires g c κs = ((lit< tt, tt), λ a m. absurd (not-mem-nil m))

pub ne-requires-2 : goal.ne-requires-2
ne-requires-2 g c κs = ((elim g.bound-1.eight_or_sixteen [ inl e ↦ rw e (lit< tt) | inr e ↦ rw e (lit< tt) ], tt), λ a m. absurd (not-mem-nil m))

pub ne-requires-3 : goal.ne-requires-3
ne-requires-3 g c κs = ((elim g.bound-1.eight_or_sixteen [ inl e ↦ rw e (lit< tt) | inr e ↦ rw e (lit< tt) ], tt), λ a m. absurd (not-mem-nil m))

pub as_slice-requires : goal.as_slice-requires
as_slice-requires g c = lit< tt

pub as_slice-requires-2 : goal.as_slice-requires-2
as_slice-requires-2 g c = lit< tt

pub eq-requires : goal.eq-requires
eq-requires g c = lit< tt
