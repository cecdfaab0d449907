use Rattle.std.proofs.Common.{lit<, inl, inr}
use Rattle.noting.proofs.states.tells_other.Goals as goal

pub frame-requires : goal.frame-requires
frame-requires g c =
    let r = c.requires in
    (lit< tt, (elim r.capacity_ok [ inl e ↦ rw e (lit< tt) | inr e ↦ rw e (lit< tt) ], (r.heard.closed, (r.heard.some_slot, (r.node, r.other)))))
