use Rattle.std.proofs.Common.{rules, inl, inr, lit<}
use Rattle.heard_links.proofs.links.Links.is_alike.Goals as goal

pub is_round_alike-requires : goal.is_round_alike-requires
is_round_alike-requires g c = (
  search rules,
  (
    elim c.requires.heard.set.capacity [ inl e ↦ rw e (lit< tt) | inr e ↦ rw e (lit< tt) ],
    (record { heard = c.requires.heard; few = search rules; one = search rules; other = search rules; two = c.if-i-j.false }, search rules),
  ),
)
