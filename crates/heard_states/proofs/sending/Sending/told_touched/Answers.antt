use Rattle.std.proofs.Common.{sym, ap, ◌∙◌, Some}
use Rattle.fault_link.specs.Arrival.{delivered_of}
use Rattle.fault_classes.specs.Change.{change_of}
use Rattle.protocol.specs.Talk.{frame_by}
use Rattle.protocol.specs.Arrival.{body_said}
use Rattle.protocol.specs.Run.{state_content}
use Rattle.protocol.specs.Configured.{setting_of}
use Rattle.touched_frames.specs.Arrived.{part_of}
use Rattle.touched_frames.proofs.Effects.{parts_law}
use Rattle.heard_states.specs.Slot.{expected_of}
use Rattle.heard_states.specs.Told.{sent_by}
use Rattle.heard_states.proofs.Frames.{said_fits}
use Rattle.heard_states.proofs.Sendings.{said_is}
use Rattle.heard_states.proofs.sending.Sending.told_touched.Goals as goal

pub returns-in-Some : goal.returns-in-Some
returns-in-Some g c =
    let x = c.args.self.now in
    let ok = c.requires.sending in
    let config = x.slot.config.now in
    let e = expected_of config x.slot.period c.args.from in
    let said = state_content (setting_of config) (sent_by x.senders.full x.states.now c.args.from) in
    sym (parts_law body_said e (delivered_of (Some (change_of c.args.effect.now)) (frame_by e said)) ∙ ap (part_of body_said) (c.in-Some.ensures.found e e said (said_fits config ok.slot_is.capacity ok.slot_is.config x.slot.period c.args.from said (said_is x ok c.args.from))))
