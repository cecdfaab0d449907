use Rattle.std.proofs.Common.{lit<, inl, inr}
use Rattle.error_detect.proofs.watch.SlotWatch.entries_at.Goals as goal

pub frame-requires : goal.frame-requires
frame-requires g c =
    (lit< tt, (elim c.self.invariant.inboxes.capacity [ inl y ↦ rw y (lit< tt) | inr y ↦ rw y (lit< tt) ], (c.requires.closed, (c.requires.some_slot, (c.requires.node, c.requires.other)))))
