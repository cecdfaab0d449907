use Rattle.std.proofs.Common.{get_or, sym, ◌∙◌, arith}
use Rattle.error_reports.specs.Notes.{is_kind}
use Rattle.error_reports.specs.NoteLaws.{noted_alike}
use Rattle.protocol.specs.Arrival.{is_good}
use Rattle.shared_states.specs.Sharing.{state_at}
use Rattle.heard_states.specs.Slot.{noted_states}
use Rattle.heard_states.specs.Told.{told_in}
use Rattle.heard_states.specs.Hearing.{heard_kind, is_heard_well}
use Rattle.heard_states.specs.declared.hearing.Heard.TheVariants.{Bad}
use Rattle.heard_states.proofs.Alike.{good_alike}
use Rattle.heard_states.proofs.Hearings.{heard_well, heard_noted}
use Rattle.heard_states.proofs.slot.SyncSlot.hear_at.Goals as goal

pub returns-clause-good : goal.returns-clause-good
returns-clause-good g c =
    let slot = c.args.self.now in
    let i = c.args.i in
    let heard = c.heard_all-heard.result in
    let told = told_in slot c.args.senders.now.full c.args.states.now i in
    c.good_of.ensures
    ∙ good_alike slot.config.now.nodes i (λ j. is_heard_well (get_or heard j (Bad 0))) (λ j. is_good (told j))
    (λ j low other. heard_well slot.config.now (state_at c.args.states.now i) (get_or heard j (Bad 0)) (told j) (c.heard_all-heard.ensures j low other))

pub returns-clause-notes : goal.returns-clause-notes
returns-clause-notes g c = λ a mine.
    let slot = c.args.self.now in
    let i = c.args.i in
    let heard = c.heard_all-heard.result in
    let told = told_in slot c.args.senders.now.full c.args.states.now i in
    c.note_heard.ensures
    ∙ noted_alike g.row.N c.args.notes.now (λ j k. is_kind (heard_kind (get_or heard j (Bad 0))) k) (noted_states slot.config.now a told)
    (λ j k room used other within.
    let low = c.requires.nodes in
    heard_noted slot.config.now (state_at c.args.states.now i) (get_or heard j (Bad 0)) a told j k mine
    (c.heard_all-heard.ensures j (omega arith) (λ e. other (e ∙ sym c.requires.me))))
