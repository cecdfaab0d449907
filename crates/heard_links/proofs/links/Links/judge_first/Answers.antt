use Rattle.std.proofs.Common.{◌≡◌, Some, refl, sym, ap, subst, ◌∙◌, arith, lit<}
use Rattle.frames.specs.Content.{Expectation}
use Rattle.frames.specs.Seen.{expected}
use Rattle.frames.specs.Spelling.{IsInRange}
use Rattle.fault_classes.specs.Change.{change_of}
use Rattle.protocol.specs.Talk.{arrives, rounds_upto}
use Rattle.touched_items.specs.Items.{first_content, bad_kind}
use Rattle.heard_links.specs.Hearing.{talk_in, item_of}
use Rattle.heard_links.proofs.Runs.{item_range, first_told}
use Rattle.heard_links.proofs.Sets.{few_m, acts_arrive}
use Rattle.heard_links.proofs.links.Links.judge_first.Goals as goal

pub first_frame-requires : goal.first_frame-requires
first_frame-requires g c =
    let a = c.args in
    let x = a.phase.now in
    let h = c.requires.frame.heard in
    let t = talk_in g.V.Item.form x a.self.now in
    let e = t.expect 0 a.from (t.members a.to) in
    let nodes : c.expect-expect.result.nodes ≡ x.config.now.nodes = ap (λ (e : Expectation). e.nodes) c.expect-expect.ensures in
    let rounds : c.expect-expect.result.m ≡ x.config.now.m = ap (λ (e : Expectation). e.m) c.expect-expect.ensures in
    let some = h.set.config.some_nodes in
    let few = h.set.config.few_nodes in
    let most = few_m x h.set in (
      lit< tt,
      (
        omega (arith, nodes, some),
        (
          omega (arith, nodes, few),
          (
            omega (arith, rounds, most),
            subst (λ (those : Expectation). IsInRange those (first_content g.V.Item.form c.own.result)) (sym c.expect-expect.ensures)
                (item_range g.V.Item.form g.V.Item.first_slot g.V.Item.tells g.V.Item.entry_form g.V.Item.in_range g.met.V.Item.made_of g.met.V.Item.fits x (item_of a.self.now) h.set h.sys h.run a.from a.to c.requires.frame.from (h.set.awake a.to c.requires.frame.to) c.own.result c.own.ensures),
          ),
        ),
      ),
    )

pub returns-in-Good : goal.returns-in-Good
returns-in-Good g c =
    let a = c.args in
    let x = a.phase.now in
    let h = c.requires.frame.heard in
    let t = talk_in g.V.Item.form x a.self.now in
    let e = t.expect 0 a.from (t.members a.to) in
    let first_is = first_told g.V.Item.form g.V.Item.first_slot g.V.Item.tells g.V.Item.entry_form g.V.Item.in_range g.met.V.Item.made_of g.met.V.Item.fits x (item_of a.self.now) h.set h.sys h.run a.from a.to c.own.result c.own.ensures in
    let same : arrives g.V.Item.form.item_in (Some (change_of a.effect.now)) (expected c.expect-expect.result) (expected c.expect-expect.result) (first_content g.V.Item.form c.own.result)
    ≡ (rounds_upto t x.config.now.m a.to).first a.from =
    ap (λ (those : Expectation). arrives g.V.Item.form.item_in (Some (change_of a.effect.now)) those those (first_content g.V.Item.form c.own.result)) c.expect-expect.ensures
    ∙ acts_arrive g.V.Item.form.item_in (change_of a.effect.now) (t.change 0 a.from a.to) c.requires.acts e (first_content g.V.Item.form c.own.result)
    ∙ sym first_is
    in
    (c.requires.uneven, refl, sym same ∙ sym c.in-Good.ensures)

pub returns-in-Bad : goal.returns-in-Bad
returns-in-Bad g c =
    let a = c.args in
    let x = a.phase.now in
    let h = c.requires.frame.heard in
    let t = talk_in g.V.Item.form x a.self.now in
    let e = t.expect 0 a.from (t.members a.to) in
    let first_is = first_told g.V.Item.form g.V.Item.first_slot g.V.Item.tells g.V.Item.entry_form g.V.Item.in_range g.met.V.Item.made_of g.met.V.Item.fits x (item_of a.self.now) h.set h.sys h.run a.from a.to c.own.result c.own.ensures in
    let same : arrives g.V.Item.form.item_in (Some (change_of a.effect.now)) (expected c.expect-expect.result) (expected c.expect-expect.result) (first_content g.V.Item.form c.own.result)
    ≡ (rounds_upto t x.config.now.m a.to).first a.from =
    ap (λ (those : Expectation). arrives g.V.Item.form.item_in (Some (change_of a.effect.now)) those those (first_content g.V.Item.form c.own.result)) c.expect-expect.ensures
    ∙ acts_arrive g.V.Item.form.item_in (change_of a.effect.now) (t.change 0 a.from a.to) c.requires.acts e (first_content g.V.Item.form c.own.result)
    ∙ sym first_is
    in
    (c.requires.uneven, ap bad_kind (sym same ∙ sym c.in-Bad.ensures))
