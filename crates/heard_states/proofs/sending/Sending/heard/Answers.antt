use Rattle.std.proofs.Common.{sym, ap, ◌∙◌, Some}
use Rattle.fault_link.specs.Arrival.{delivered_of}
use Rattle.fault_classes.specs.Change.{change_of}
use Rattle.protocol.specs.Talk.{frame_by, arrives}
use Rattle.protocol.specs.Arrival.{body_said}
use Rattle.protocol.specs.Run.{state_content}
use Rattle.protocol.specs.Configured.{setting_of}
use Rattle.touched_frames.specs.Arrived.{part_of}
use Rattle.touched_frames.proofs.Effects.{parts_law}
use Rattle.heard_states.specs.Slot.{expected_of}
use Rattle.heard_states.specs.Told.{sent_by}
use Rattle.heard_states.proofs.Frames.{said_fits}
use Rattle.heard_states.proofs.Sendings.{said_is, told_sent}
use Rattle.heard_states.proofs.sending.Sending.heard.Goals as goal

pub returns-in_default : goal.returns-in_default
returns-in_default g c =
    c.heard_sent.ensures c.args.to c.requires.alike (told_sent c.args.self.now c.requires.frame.sending c.args.to c.args.from (sym c.in_default.ensures))

pub returns-in-Some-unread_kind : goal.returns-in-Some-unread_kind
returns-in-Some-unread_kind g c =
    let x = c.args.self.now in
    let ok = c.requires.frame.sending in
    let config = x.slot.config.now in
    let e = expected_of config x.slot.period c.args.from in
    let said = state_content (setting_of config) (sent_by x.senders.full x.states.now c.args.from) in
    let change = Some (change_of c.in-Some.effect.now) in
    ap (λ o. arrives body_said o e e said) (sym c.in-Some.ensures)
    ∙ parts_law body_said e (delivered_of change (frame_by e said)) ∙ ap (part_of body_said) (c.in-Some-unread_kind.ensures.found e e said (said_fits config ok.slot_is.capacity ok.slot_is.config x.slot.period c.args.from said (said_is x ok c.args.from)))
