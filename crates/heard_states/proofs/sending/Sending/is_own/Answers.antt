use Rattle.std.proofs.Common.{inl, inr, lit<, sym}
use Rattle.heard_states.proofs.sending.Sending.is_own.Goals as goal

pub body-requires : goal.body-requires
body-requires g c =
    let ok = c.requires in (
      elim ok.slot_is.capacity [ inl e ↦ rw e (lit< tt) | inr e ↦ rw e (lit< tt) ],
      (elim ok.slot_is.capacity [ inl e ↦ rw e (lit< tt) | inr e ↦ rw e (lit< tt) ], (ok.slot_is.config, ok.agreed c.args.to c.in-Some.state.now (sym c.in-Some.ensures))),
    )
