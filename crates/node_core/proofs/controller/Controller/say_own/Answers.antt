use Rattle.std.proofs.Common.{inl, inr, lit<}
use Rattle.slot_plan.specs.declared.slot.Slot.TheVariants.{Sync, Claims, Data, Rows}
use Rattle.node_core.proofs.Behind.{stands_in, is_slot}
use Rattle.node_core.proofs.controller.Controller.say_own.Goals as goal

pub say_state-requires : goal.say_state-requires
say_state-requires g c =
    let inv = c.self.invariant in
    let v = c.args.self.now in
    let at = stands_in c.self.inside v inv c.self.view_is Sync c.in-Sync.is in
    (elim inv.place.capacity [ inl e ↦ rw e (lit< tt) | inr e ↦ rw e (lit< tt) ], (elim inv.place.capacity [ inl e ↦ rw e (lit< tt) | inr e ↦ rw e (lit< tt) ], (c.requires.ready, (c.requires.own, at))))

pub say_claims-requires : goal.say_claims-requires
say_claims-requires g c =
    let inv = c.self.invariant in
    let v = c.args.self.now in
    let at = stands_in c.self.inside v inv c.self.view_is (Claims c.in-Claims.round) c.in-Claims.is in
    let low = is_slot c.self.inside v inv c.self.view_is (Claims c.in-Claims.round) c.in-Claims.is in
    (elim inv.place.capacity [ inl e ↦ rw e (lit< tt) | inr e ↦ rw e (lit< tt) ], (elim inv.place.capacity [ inl e ↦ rw e (lit< tt) | inr e ↦ rw e (lit< tt) ], (c.requires.ready, (c.requires.own, (low, at)))))

pub say_values-requires : goal.say_values-requires
say_values-requires g c =
    let inv = c.self.invariant in
    let v = c.args.self.now in
    let at = stands_in c.self.inside v inv c.self.view_is Data c.in-Data.is in
    (elim inv.place.capacity [ inl e ↦ rw e (lit< tt) | inr e ↦ rw e (lit< tt) ], (elim inv.place.capacity [ inl e ↦ rw e (lit< tt) | inr e ↦ rw e (lit< tt) ], (c.requires.ready, (c.requires.own, at))))

pub say_rows-requires : goal.say_rows-requires
say_rows-requires g c =
    let inv = c.self.invariant in
    let v = c.args.self.now in
    let at = stands_in c.self.inside v inv c.self.view_is (Rows c.in-Rows.round) c.in-Rows.is in
    let low = is_slot c.self.inside v inv c.self.view_is (Rows c.in-Rows.round) c.in-Rows.is in
    (elim inv.place.capacity [ inl e ↦ rw e (lit< tt) | inr e ↦ rw e (lit< tt) ], (elim inv.place.capacity [ inl e ↦ rw e (lit< tt) | inr e ↦ rw e (lit< tt) ], (c.requires.ready, (c.requires.own, (low, at)))))

pub returns-in-Claims-clause-room : goal.returns-in-Claims-clause-room
returns-in-Claims-clause-room g c = c.say_claims.ensures.room

pub returns-in-Claims-clause-written : goal.returns-in-Claims-clause-written
returns-in-Claims-clause-written g c = c.say_claims.ensures.written

pub returns-in-Data-clause-room : goal.returns-in-Data-clause-room
returns-in-Data-clause-room g c = c.say_values.ensures.room

pub returns-in-Data-clause-written : goal.returns-in-Data-clause-written
returns-in-Data-clause-written g c = c.say_values.ensures.written

pub returns-in-Rows-clause-room : goal.returns-in-Rows-clause-room
returns-in-Rows-clause-room g c = c.say_rows.ensures.room

pub returns-in-Rows-clause-written : goal.returns-in-Rows-clause-written
returns-in-Rows-clause-written g c = c.say_rows.ensures.written

pub returns-in-Sync-clause-room : goal.returns-in-Sync-clause-room
returns-in-Sync-clause-room g c = c.say_state.ensures.room

pub returns-in-Sync-clause-written : goal.returns-in-Sync-clause-written
returns-in-Sync-clause-written g c = c.say_state.ensures.written
