use Rattle.std.proofs.Common.{inl, inr, lit<, sym}
use Rattle.heard_states.proofs.sending.Sending.body.Goals as goal

pub body-requires : goal.body-requires
body-requires g c =
    let ok = c.requires.sending in (
      elim ok.slot_is.capacity [ inl e ↦ rw e (lit< tt) | inr e ↦ rw e (lit< tt) ],
      (elim ok.slot_is.capacity [ inl e ↦ rw e (lit< tt) | inr e ↦ rw e (lit< tt) ], (ok.slot_is.config, ok.agreed c.args.from c.in-Some.state.now (sym c.in-Some.ensures))),
    )
