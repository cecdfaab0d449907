use Rattle.std.proofs.Common.{inl, inr, lit<}
use Rattle.heard_links.proofs.links.Links.hear.Goals as goal

pub judged-judged-requires : goal.judged-judged-requires
judged-judged-requires g c =
    let set = c.requires.told.set in
    (elim set.capacity [ inl e ↦ rw e (lit< tt) | inr e ↦ rw e (lit< tt) ], (lit< tt, set))
