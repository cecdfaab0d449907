use Rattle.std.proofs.Common.{lit<, inl, inr, ap, sym, ◌∙◌}
use Rattle.std.specs.Prelude.{option_map}
use Rattle.frames.specs.Seen.{content}
use Rattle.relaying.specs.Told.{part_told}
use Rattle.relaying.proofs.hearing.item_told.Goals as goal

pub frame-requires : goal.frame-requires
frame-requires g c = (
  lit< tt,
  (
    elim g.bound-7.eight_or_sixteen [ inl e ↦ rw e (lit< tt) | inr e ↦ rw e (lit< tt) ],
    (c.requires.closed.closed, (c.requires.closed.some_slot, (c.requires.node, c.requires.other))),
  ),
)

pub item_of-requires : goal.item_of-requires
item_of-requires g c = elim g.bound-7.eight_or_sixteen [ inl e ↦ rw e (lit< tt) | inr e ↦ rw e (lit< tt) ]

pub returns-in-Some : goal.returns-in-Some
returns-in-Some g c = c.item_of.ensures c.args.watch.now.nodes ∙ ap (part_told g.V.RelayedItem.form.item_in) (sym (ap (option_map (λ f. content c.args.watch.now.nodes f.body)) c.in-Some.is) ∙ c.frame.ensures.told)

pub returns-in-None : goal.returns-in-None
returns-in-None g c = ap (part_told g.V.RelayedItem.form.item_in) (sym (ap (option_map (λ f. content c.args.watch.now.nodes f.body)) c.in-None.is) ∙ c.frame.ensures.told)
