use Rattle.std.proofs.Common.{◌≡◌, ◌<◌, ◌≤◌, ℕ, List, length, arith, inl, inr, lit<, refl, sym, ap, subst, ◌∙◌}
use Rattle.std.specs.Prelude.{vec_capacity}
use Rattle.frames.specs.Content.Content.{Done0}
use Rattle.protocol.specs.View.{own_claim}
use Rattle.node_steps.specs.Parts.{NodeView}
use Rattle.node_steps.specs.PremiseLaws.{few_due}
use Rattle.node_core.proofs.Behind.{config_ok}
use Rattle.node_core.proofs.RelaySaid.{claims_asked_now, claims_frame}
use Rattle.node_core.proofs.Spelt.{inside_fits, says_claim}
use Rattle.node_core.proofs.controller.Controller.say_claims.Goals as goal

pub own_claim-claim-requires : goal.own_claim-claim-requires
own_claim-claim-requires g c =
    let place = c.self.invariant.place in
    (elim place.capacity [ inl e ↦ rw e (lit< tt) | inr e ↦ rw e (lit< tt) ], (let l = place.me_low in let f = place.few in omega arith))

pub write-requires : goal.write-requires
write-requires g c =
    let v = c.args.self.now in
    let is = c.self.view_is in
    let at : v.phase.slot ≡ 1 = (let s = c.requires.slot in let z = c.if-round-eq0.true in omega (arith, s, z)) in
    let claim = c.own_claim-claim.ensures ∙ ap (λ (w : NodeView g.row.N). own_claim w.phase.me w.phase.inputs c.args.agreed.now) is in (
      elim c.self.invariant.place.capacity [ inl e ↦ rw e (lit< tt) | inr e ↦ rw e (lit< tt) ],
      (
        elim c.self.invariant.place.capacity [ inl e ↦ rw e (lit< tt) | inr e ↦ rw e (lit< tt) ],
        (c.requires.ready, (c.head.ensures, (tt, (says_claim v c.args.agreed.now c.requires.own at ∙ sym (ap Done0 claim), refl)))),
      ),
    )

pub expectation-expect-requires : goal.expectation-expect-requires
expectation-expect-requires g c = (elim c.self.invariant.place.capacity [ inl e ↦ rw e (lit< tt) | inr e ↦ rw e (lit< tt) ], (lit< tt, (c.requires.round, few_due c.args.self.now (config_ok c.self.inside c.args.self.now c.self.invariant c.self.view_is) c.requires.ready.sound.sizes)))

pub say_round-requires : goal.say_round-requires
say_round-requires g c =
    let n = c.self.inside in
    let v = c.args.self.now in
    let is = c.self.view_is in
    let s = c.requires.ready.sound in
    let some : 0 < c.args.round = (let z = c.if-round-eq0.false in omega (arith, z)) in
    let low = c.requires.round in
    let rounds : n.done.rounds ≡ v.config.m = ap (λ (w : NodeView g.row.N). w.done.rounds) is ∙ s.sizes.done.rounds_are in
    let asked = claims_asked_now n v is c.args.agreed.now c.requires.own s.sizes (s.in_slot c.requires.ready.is_open) _ c.args.round some low c.requires.slot c.expectation-expect.ensures in
    let frame = claims_frame n v is c.args.agreed.now c.requires.own s.sizes (s.in_slot c.requires.ready.is_open) _ c.args.round some low c.requires.slot c.expectation-expect.ensures in
    let room = inside_fits n v (vec_capacity c.args.out.now) c.self.invariant is c.requires.ready in
    (lit< tt, (lit< tt, (some, (omega (arith, low, rounds), (asked, subst (λ (bytes : List ℕ). length bytes ≤ vec_capacity c.args.out.now) (sym frame) room)))))

pub returns-clause-written : goal.returns-clause-written
returns-clause-written g c =
    let s = c.requires.ready.sound in
    let some : 0 < c.args.round = (let z = c.if-round-eq0.false in omega (arith, z)) in
    c.say_round.ensures.written
    ∙ claims_frame c.self.inside c.args.self.now c.self.view_is c.args.agreed.now c.requires.own s.sizes (s.in_slot c.requires.ready.is_open) _ c.args.round some c.requires.round c.requires.slot c.expectation-expect.ensures

pub returns-then-round-eq0-clause-room : goal.returns-then-round-eq0-clause-room
returns-then-round-eq0-clause-room g c = c.write.ensures.room

pub returns-then-round-eq0-clause-written : goal.returns-then-round-eq0-clause-written
returns-then-round-eq0-clause-written g c = c.write.ensures.written

pub returns-clause-room : goal.returns-clause-room
returns-clause-room g c = c.say_round.ensures.room

pub head-requires : goal.head-requires
head-requires g c = elim c.self.invariant.place.capacity [ inl e ↦ rw e (lit< tt) | inr e ↦ rw e (lit< tt) ]
