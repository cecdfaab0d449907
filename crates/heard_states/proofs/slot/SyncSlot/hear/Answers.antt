use Rattle.std.proofs.Common.{◌≡◌, ◌<◌, List, Option, true, false, length, get_or, refl, inl, inr, lit<, sym, ap, subst, ◌∙◌, arith}
use Rattle.std.proofs.lemmas.List.{get_or_default}
use Rattle.error_reports.specs.Notes.{Notes}
use Rattle.agreed_state.specs.Agreed.{AgreedView}
use Rattle.heard_states.specs.Slot.{no_notes, notes_at}
use Rattle.heard_states.proofs.Slots.{IsTaken, senders_kept, full_there, there_full, none_off, taken_kept, heard_more, calm_end, heard_end, ready_end}
use Rattle.heard_states.proofs.slot.SyncSlot.hear.Goals.{then-not-has, else-not-has}
use Rattle.heard_states.proofs.slot.SyncSlot.hear.Goals as goal

pub is_calm-requires : goal.is_calm-requires
is_calm-requires g c =
    let slot = c.requires.slot in
    let ready = c.requires.ready in
    let there = full_there c.args.self.now c.args.states.now c.args.notes.now slot ready c.awake.result c.awake.ensures.nodes in (
      lit< tt,
      (
        lit< tt,
        (
          elim slot.capacity [ inl e ↦ rw e (lit< tt) | inr e ↦ rw e (lit< tt) ],
          record { slot_is = slot; long = ready.long; agreed = ready.agreed; used = λ j on. ready.used j (there j on); there = there; untouched = c.touched.ensures },
        ),
      ),
    )

pub returns-then-is_calm-clause-heard : goal.returns-then-is_calm-clause-heard
returns-then-is_calm-clause-heard g c = λ sys of.
    calm_end c.args.self.now c.args.states.now c.args.notes.now c.requires.slot c.requires.ready sys of (c.is_calm.ensures c.if-is_calm.true) c.others.result c.others.ensures

pub adopt_at-requires : goal.adopt_at-requires
adopt_at-requires g c =
    let slot = c.requires.slot in
    let ready = c.requires.ready in
    let was = c.loop-i.invariant in
    let there = full_there c.args.self.now c.args.states.now c.args.notes.now slot ready c.awake.result c.awake.ensures.nodes in (
      lit< tt,
      (
        lit< tt,
        (
          elim slot.capacity [ inl e ↦ rw e (lit< tt) | inr e ↦ rw e (lit< tt) ],
          (
            senders_kept c.args.self.now slot c.awake.result c.touched.result c.args.states.now c.loop-i.states there (λ j on. ready.used j (there j on)) c.touched.ensures was.states_long was.agreed was.full_kept,
            (
              c.loop-i-test.true,
              was.later c.loop-i.i (omega arith) ∙ none_off c.args.self.now c.args.states.now c.args.notes.now slot ready c.awake.result c.awake.ensures.nodes c.loop-i.i (sym c.has.ensures ∙ c.if-not-has.true),
            ),
          ),
        ),
      ),
    )

pub hear_at-requires : goal.hear_at-requires
hear_at-requires g c =
    let slot = c.requires.slot in
    let ready = c.requires.ready in
    let was = c.loop-i.invariant in
    let low = c.loop-i-test.true in
    let i = c.loop-i.i in
    let there = full_there c.args.self.now c.args.states.now c.args.notes.now slot ready c.awake.result c.awake.ensures.nodes in
    let none = none_off c.args.self.now c.args.states.now c.args.notes.now slot ready c.awake.result c.awake.ensures.nodes in
    let t : IsTaken c.args.self.now c.awake.result i c.loop-i.states c.if-not-has.states = elim c.if-not-has.branch [
      | then-not-has w ↦ subst (λ (now : List (Option AgreedView)). IsTaken c.args.self.now c.awake.result i c.loop-i.states now) (sym w.states-is) (record {
        long = w.adopt_at.ensures.long;
        agreed = w.adopt_at.ensures.agreed;
        kept = λ on. absurd (let z : true ≡ false = sym on ∙ sym c.has.ensures ∙ w.if-not-has.true in cc);
        taken = λ off. w.adopt_at.ensures.own;
        others = w.adopt_at.ensures.others;
      })
      | else-not-has w ↦ subst (λ (now : List (Option AgreedView)). IsTaken c.args.self.now c.awake.result i c.loop-i.states now) (sym w.states-is) (record {
        long = was.states_long;
        agreed = was.agreed;
        kept = λ on. refl;
        taken = λ off. absurd (let z : false ≡ true = sym off ∙ sym c.has.ensures ∙ w.if-not-has.false in cc);
        others = λ j ne. refl;
      })
    ] in
    let room : i < length c.loop-i.notes = omega (arith, low, ready.room, was.long) in
    let at : get_or c.loop-i.notes i c.index-notes-i.result ≡ notes_at c.args.notes.now i = get_or_default c.loop-i.notes i c.index-notes-i.result no_notes room ∙ was.rest i (omega arith) in (
      lit< tt,
      (
        lit< tt,
        (
          elim slot.capacity [ inl e ↦ rw e (lit< tt) | inr e ↦ rw e (lit< tt) ],
          (
            elim slot.capacity [ inl e ↦ rw e (lit< tt) | inr e ↦ rw e (lit< tt) ],
            (
              lit< tt,
              (
                senders_kept c.args.self.now slot c.awake.result c.touched.result c.args.states.now c.if-not-has.states there (λ j on. ready.used j (there j on)) c.touched.ensures t.long t.agreed
                    (taken_kept c.args.self.now c.awake.result c.args.states.now c.args.notes.now none i c.loop-i.states c.if-not-has.states c.loop-i.notes c.loop-i.heard was t),
                (low, (ap (λ (m : Notes). m.nodes) at ∙ ready.nodes_are i low, ap (λ (m : Notes). m.me) at ∙ ready.me_is i low)),
              ),
            ),
          ),
        ),
      ),
    )

pub loop-i-preserved : goal.loop-i-preserved
loop-i-preserved g c =
    let ready = c.requires.ready in
    let was = c.loop-i.invariant in
    let low = c.loop-i-test.true in
    let few = c.requires.slot.config.few_nodes in
    let i = c.loop-i.i in
    let none = none_off c.args.self.now c.args.states.now c.args.notes.now c.requires.slot ready c.awake.result c.awake.ensures.nodes in
    let t : IsTaken c.args.self.now c.awake.result i c.loop-i.states c.if-not-has.states = elim c.if-not-has.branch [
      | then-not-has w ↦ subst (λ (now : List (Option AgreedView)). IsTaken c.args.self.now c.awake.result i c.loop-i.states now) (sym w.states-is) (record {
        long = w.adopt_at.ensures.long;
        agreed = w.adopt_at.ensures.agreed;
        kept = λ on. absurd (let z : true ≡ false = sym on ∙ sym c.has.ensures ∙ w.if-not-has.true in cc);
        taken = λ off. w.adopt_at.ensures.own;
        others = w.adopt_at.ensures.others;
      })
      | else-not-has w ↦ subst (λ (now : List (Option AgreedView)). IsTaken c.args.self.now c.awake.result i c.loop-i.states now) (sym w.states-is) (record {
        long = was.states_long;
        agreed = was.agreed;
        kept = λ on. refl;
        taken = λ off. absurd (let z : false ≡ true = sym off ∙ sym c.has.ensures ∙ w.if-not-has.false in cc);
        others = λ j ne. refl;
      })
    ] in
    heard_more c.args.self.now c.awake.result c.args.states.now c.args.notes.now none i c.loop-i.states c.if-not-has.states c.loop-i.notes c.loop-i.heard was t c.index-notes-i.result c.hear_at.new.notes c.hear_at.result
    (omega (arith, low, ready.room, was.long)) (omega (arith, low, few, was.wide)) (record { good = c.hear_at.ensures.good; noted = c.hear_at.ensures.notes; kept = c.hear_at.ensures.kept })

pub returns-clause-heard : goal.returns-clause-heard
returns-clause-heard g c = λ sys of.
    let there = full_there c.args.self.now c.args.states.now c.args.notes.now c.requires.slot c.requires.ready c.awake.result c.awake.ensures.nodes in
    let full = there_full c.args.self.now c.args.states.now c.args.notes.now c.requires.slot c.requires.ready c.awake.result c.awake.ensures.nodes in
    heard_end c.args.self.now c.args.states.now c.args.notes.now c.requires.slot c.requires.ready sys of c.awake.result c.loop-i.i c.loop-i.states c.loop-i.notes c.loop-i.heard full there c.loop-i-test.false c.loop-i.invariant

pub returns-clause-ready : goal.returns-clause-ready
returns-clause-ready g c =
    ready_end c.args.self.now c.awake.result c.args.states.now c.loop-i.states c.args.notes.now c.loop-i.notes c.loop-i.i c.loop-i.heard c.requires.ready c.loop-i.auto.i-end c.loop-i-test.false c.loop-i.invariant
