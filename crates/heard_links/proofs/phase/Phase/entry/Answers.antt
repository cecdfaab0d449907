use Rattle.std.proofs.Common.{ℕ, ◌≡◌, ◌<◌, ◌+◌, length, Option, Some, sym, ap, subst, ◌∙◌, inl, inr, lit<, slice_index_or}
use Rattle.omh_paths.specs.declared.wrapped.Wrapped.TheVariants.{Fault}
use Rattle.frames.specs.Content.{Expectation}
use Rattle.frames.specs.Seen.{expected}
use Rattle.fault_classes.specs.Change.{Change, change_of}
use Rattle.fault_classes.specs.Line.{effect_at}
use Rattle.agreed_state.specs.Expecting.{expectation}
use Rattle.protocol.specs.Talk.{arrives}
use Rattle.touched_items.specs.Items.{HasOwn}
use Rattle.heard_links.specs.Frames.{IsLink}
use Rattle.heard_links.specs.Talks.{members_at}
use Rattle.heard_links.proofs.Sets.{acts_arrive}
use Rattle.heard_links.proofs.phase.Phase.entry.Goals as goal

pub effect-requires : goal.effect-requires
effect-requires g c =
    let s = c.requires.link.set in
    (elim s.capacity [ inl e ↦ rw e (lit< tt) | inr e ↦ rw e (lit< tt) ], subst (λ (n : ℕ). IsLink c.args.self.now n c.args.q c.args.i) (sym c.len-round.ensures.count) c.requires.link)

pub returns : goal.returns
returns g c = λ item content xs own good low.
    let x = c.args.self.now in
    let form = g.V.Item.form in
    let round = c.len-round.ensures.count in
    let e1 : expected c.expect-expect.result ≡ expectation x.config.now x.period (x.first + length c.args.front.now) c.args.q (members_at x c.args.i) 0 =
    c.expect-expect.ensures ∙ ap (λ (n : ℕ). expectation x.config.now x.period (x.first + n) c.args.q (members_at x c.args.i) 0) round
    in
    let e : Expectation = expectation x.config.now x.period (x.first + length c.args.front.now) c.args.q (members_at x c.args.i) 0 in
    let k1 = c.place.ensures.place in
    let came : arrives form.relay_in (Some (change_of c.effect_or-effect.result.now)) (expected c.expect-expect.result) (expected c.expect-expect.result) content
    ≡ arrives form.relay_in (effect_at x.plan.now.lines x.period (x.first + length c.args.front.now) c.args.q c.args.i) e e content =
    ap (λ (those : Expectation). arrives form.relay_in (Some (change_of c.effect_or-effect.result.now)) those those content) e1
    ∙ acts_arrive form.relay_in (change_of c.effect_or-effect.result.now) _ c.effect_or-effect.ensures e content
    ∙ ap (λ (change : Option Change). arrives form.relay_in change e e content) (c.effect.ensures ∙ ap (λ (n : ℕ). effect_at x.plan.now.lines x.period (x.first + n) c.args.q c.args.i) round)
    in
    c.entry.ensures content xs
    (subst (λ (those : Expectation). HasOwn form those c.place.result c.args.own content) (sym e1) (subst (λ (k : ℕ). HasOwn form e k c.args.own content) (sym k1) own))
    (came ∙ good) (subst (λ (k : ℕ). k < length xs) (sym k1) low)
    ∙ ap (λ (k : ℕ). slice_index_or xs k (Fault 0)) k1
