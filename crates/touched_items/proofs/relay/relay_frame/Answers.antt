use Rattle.std.proofs.Common.{sym, ap, ◌∙◌}
use Rattle.std.specs.Prelude.{is_none}
use Rattle.frames.specs.Content.{Content, Expectation}
use Rattle.frames.specs.Seen.{expected}
use Rattle.fault_classes.specs.Change.{change_of}
use Rattle.protocol.specs.Arrival.Arrival.{Bad}
use Rattle.protocol.specs.Talk.{frame_by}
use Rattle.touched_frames.proofs.Effects.{not_raw}
use Rattle.touched_items.specs.Items.{with_members, bad_kind}
use Rattle.touched_items.proofs.Cells.{cells_law}
use Rattle.touched_items.proofs.Coming.{parts_seen, as_set}
use Rattle.touched_items.proofs.relay.relay_frame.Goals as goal

pub returns-in-Some : goal.returns-in-Some
returns-in-Some g c =
    let e : Expectation = expected c.args.expect.now in
    let said : Content = g.V.Item.form.relay (g.E.Entries.entries c.args.entries.now) in
    let found = c.in-Some.ensures.found (with_members e c.requires.sent.members) e said c.requires.sent.in_range in
    sym (ap bad_kind (parts_seen g.V.Item.form.relay_in (change_of c.args.effect.now) e said (Bad c.in-Some.kind) (sym found)))

pub returns : goal.returns
returns g c =
    let e : Expectation = expected c.args.expect.now in
    let es = g.E.Entries.entries c.args.entries.now in
    let said : Content = g.V.Item.form.relay es in
    let law = cells_law g.V.Item.form g.V.Item.entry_form g.V.Item.in_range g.met.V.Item.made_of e c.of.result.at c.of.result.bytes.now es c.requires.nodes c.requires.rounds c.of.result.small c.requires.sent in
    c.patched_kind.ensures
    ∙ sym (ap bad_kind (as_set g.V.Item.form.relay_in (change_of c.args.effect.now) e said c.of.result.at c.of.result.bytes.now (sym c.unread_kind.ensures.unread ∙ ap is_none c.in_default.is)
    (not_raw c.args.effect.now c.in_default-effect.not-Raw) (c.of.ensures (frame_by e said)) ∙ law))
