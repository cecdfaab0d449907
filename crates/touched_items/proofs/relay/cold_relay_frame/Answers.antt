use Rattle.std.proofs.Common.{refl, sym, ap, ◌∙◌, eq-eqb, ne_eqb}
use Rattle.frames.specs.Content.{Expectation, Cold}
use Rattle.frames.specs.Seen.{content, expected}
use Rattle.frames.specs.ReadingLaws.{cold_in_range}
use Rattle.fault_classes.specs.Change.{change_of}
use Rattle.touched_frames.specs.Arrived.{seen, part_of}
use Rattle.touched_items.specs.Items.{bad_kind}
use Rattle.touched_items.proofs.Coming.{parts_seen, told_good, told_bad}
use Rattle.touched_items.proofs.relay.cold_relay_frame.Goals as goal

pub returns-in-Bad : goal.returns-in-Bad
returns-in-Bad g c =
    let e : Expectation = expected c.args.expect.now in
    let has = c.arrives.ensures e (record { nodes_are = refl; head_is = sym c.head.ensures; in_range = cold_in_range e }) in
    sym (ap bad_kind (parts_seen g.V.Item.form.relay_in (change_of c.args.effect.now) e Cold (seen e.nodes c.arrives.result) has ∙ ap (λ a. part_of g.V.Item.form.relay_in (seen e.nodes a)) c.in-Bad.is))

pub returns-then-kind_of-relay_kind : goal.returns-then-kind_of-relay_kind
returns-then-kind_of-relay_kind g c =
    let e : Expectation = expected c.args.expect.now in
    let has = c.arrives.ensures e (record { nodes_are = refl; head_is = sym c.head.ensures; in_range = cold_in_range e }) in
    let is = sym c.kind_of.ensures ∙ c.if-kind_of-relay_kind.true ∙ c.relay_kind.ensures in
    sym (ap bad_kind (parts_seen g.V.Item.form.relay_in (change_of c.args.effect.now) e Cold (seen e.nodes c.arrives.result) has ∙ ap (λ a. part_of g.V.Item.form.relay_in (seen e.nodes a)) c.in-Good.is)
    ∙ told_good (g.V.Item.form.relay_in (content e.nodes c.in-Good.body)) (g.met.V.Item.made_of.by_kind (content e.nodes c.in-Good.body) ∙ eq-eqb _ _ is))

pub returns-else-kind_of-relay_kind : goal.returns-else-kind_of-relay_kind
returns-else-kind_of-relay_kind g c =
    let e : Expectation = expected c.args.expect.now in
    let has = c.arrives.ensures e (record { nodes_are = refl; head_is = sym c.head.ensures; in_range = cold_in_range e }) in
    sym (ap bad_kind (parts_seen g.V.Item.form.relay_in (change_of c.args.effect.now) e Cold (seen e.nodes c.arrives.result) has ∙ ap (λ a. part_of g.V.Item.form.relay_in (seen e.nodes a)) c.in-Good.is)
    ∙ told_bad (g.V.Item.form.relay_in (content e.nodes c.in-Good.body))
    (g.met.V.Item.made_of.by_kind (content e.nodes c.in-Good.body) ∙ ne_eqb _ _ (λ is. c.if-kind_of-relay_kind.false (c.kind_of.ensures ∙ is ∙ sym c.relay_kind.ensures))))
