use Rattle.std.proofs.Common.{◌≡◌, Some, sym, ap, subst, ◌∙◌, arith, lit<}
use Rattle.frames.specs.Content.{Expectation, Cold}
use Rattle.fault_classes.specs.Change.{change_of}
use Rattle.protocol.specs.Talk.{arrives}
use Rattle.touched_items.specs.Items.{IsSent, bad_kind}
use Rattle.heard_links.specs.Hearing.{talk_in, sent_by}
use Rattle.heard_links.proofs.Sending.{kind_cold, kind_full, sent_range}
use Rattle.heard_links.proofs.Sets.{few_m, acts_arrive}
use Rattle.heard_links.proofs.links.Links.relay_kind.Goals as goal

pub cold_relay_frame-requires : goal.cold_relay_frame-requires
cold_relay_frame-requires g c =
    let a = c.args in
    let x = a.phase.now in
    let links = a.self.now in
    let form = g.V.Item.form in
    let h = c.requires.frame.heard in
    let t = talk_in form x links in
    let e = t.expect a.round a.from (t.members a.to) in
    let nodes : c.expect-expect.result.nodes ≡ x.config.now.nodes = ap (λ (e : Expectation). e.nodes) c.expect-expect.ensures in
    let rounds : c.expect-expect.result.m ≡ x.config.now.m = ap (λ (e : Expectation). e.m) c.expect-expect.ensures in
    let some = h.set.config.some_nodes in
    let few = h.set.config.few_nodes in
    let most = few_m x h.set in
    (lit< tt, (omega (arith, nodes, some), (omega (arith, nodes, few), omega (arith, rounds, most))))

pub returns-then-not-has : goal.returns-then-not-has
returns-then-not-has g c =
    let a = c.args in
    let x = a.phase.now in
    let links = a.self.now in
    let form = g.V.Item.form in
    let h = c.requires.frame.heard in
    let t = talk_in form x links in
    let e = t.expect a.round a.from (t.members a.to) in
    c.cold_relay_frame.ensures
    ∙ ap (λ (those : Expectation). bad_kind (arrives form.relay_in (Some (change_of a.effect.now)) those those Cold)) c.expect-expect.ensures
    ∙ ap bad_kind (acts_arrive form.relay_in (change_of a.effect.now) (t.change a.round a.from a.to) c.requires.acts e Cold)
    ∙ sym (kind_cold form g.V.Item.first_slot g.V.Item.tells g.V.Item.entry_form g.V.Item.in_range g.met.V.Item.made_of g.met.V.Item.fits x links h.set h.sys h.run a.round a.from a.to c.requires.some c.requires.frame.few (sym c.has.ensures ∙ c.if-not-has.true))

pub relay_frame-requires : goal.relay_frame-requires
relay_frame-requires g c =
    let a = c.args in
    let x = a.phase.now in
    let links = a.self.now in
    let form = g.V.Item.form in
    let h = c.requires.frame.heard in
    let t = talk_in form x links in
    let e = t.expect a.round a.from (t.members a.to) in
    let nodes : c.expect-expect.result.nodes ≡ x.config.now.nodes = ap (λ (e : Expectation). e.nodes) c.expect-expect.ensures in
    let rounds : c.expect-expect.result.m ≡ x.config.now.m = ap (λ (e : Expectation). e.m) c.expect-expect.ensures in
    let some = h.set.config.some_nodes in
    let few = h.set.config.few_nodes in
    let most = few_m x h.set in
    let sends : IsSent (t.expect a.round a.from (t.members a.to)) (form.relay (sent_by form x links a.round a.from)) =
    sent_range form g.V.Item.first_slot g.V.Item.tells g.V.Item.entry_form g.V.Item.in_range g.met.V.Item.made_of g.met.V.Item.fits x links h.set h.sys h.run a.round a.from a.to c.requires.some c.requires.frame.few c.requires.frame.from in (
      lit< tt,
      (
        omega (arith, nodes, some),
        (omega (arith, nodes, few), (omega (arith, rounds, most), subst (λ (those : Expectation). IsSent those (form.relay (sent_by form x links a.round a.from))) (sym c.expect-expect.ensures) sends)),
      ),
    )

pub returns : goal.returns
returns g c =
    let a = c.args in
    let x = a.phase.now in
    let links = a.self.now in
    let form = g.V.Item.form in
    let h = c.requires.frame.heard in
    let t = talk_in form x links in
    let e = t.expect a.round a.from (t.members a.to) in
    c.relay_frame.ensures
    ∙ ap (λ (those : Expectation). bad_kind (arrives form.relay_in (Some (change_of a.effect.now)) those those (form.relay (sent_by form x links a.round a.from)))) c.expect-expect.ensures
    ∙ ap bad_kind (acts_arrive form.relay_in (change_of a.effect.now) (t.change a.round a.from a.to) c.requires.acts e (form.relay (sent_by form x links a.round a.from)))
    ∙ sym (kind_full form g.V.Item.first_slot g.V.Item.tells g.V.Item.entry_form g.V.Item.in_range g.met.V.Item.made_of g.met.V.Item.fits x links h.set h.sys h.run a.round a.from a.to c.requires.some c.requires.frame.few (sym c.has.ensures ∙ c.if-not-has.false))
