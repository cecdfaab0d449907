use Rattle.std.proofs.Common.{◌≡◌, ◌<◌, ◌≤◌, ◌+◌, ◌*◌, ℕ, List, length, arith, inl, inr, lit<, sym, ap, subst, ◌∙◌}
use Rattle.std.specs.Prelude.{vec_capacity}
use Rattle.node_grid.specs.CapacityLaws.{capacity-le}
use Rattle.frames.specs.Content.Content.{Report0}
use Rattle.frames.specs.EntryLaws.{row_long}
use Rattle.frames.specs.Spelling.{row_spelling}
use Rattle.node_steps.specs.Parts.{NodeView}
use Rattle.node_steps.specs.PremiseLaws.{few_due}
use Rattle.node_core.proofs.Behind.{config_ok}
use Rattle.node_core.proofs.RelaySaid.{rows_asked_now, rows_frame}
use Rattle.node_core.proofs.Spelt.{inside_fits, says_row}
use Rattle.node_core.proofs.controller.Controller.say_rows.Goals as goal

pub row-requires : goal.row-requires
row-requires g c = elim c.self.invariant.place.capacity [ inl e ↦ rw e (lit< tt, lit< tt) | inr e ↦ rw e (lit< tt, lit< tt) ]

pub write-requires : goal.write-requires
write-requires g c =
    let v = c.args.self.now in
    let at : v.phase.slot ≡ v.config.m + 3 = (let s = c.requires.slot in let z = c.if-round-eq0.true in omega (arith, s, z)) in
    let row = c.row.ensures ∙ ap (λ (w : NodeView g.row.N). w.found.notes) c.self.view_is in
    let size = ap (λ (w : NodeView g.row.N). 2 * w.config.nodes) c.self.view_is ∙ sym (ap (λ (masks : List ℕ). length (row_spelling v.config.nodes masks)) row ∙ row_long v.config.version g.row.N v.config.nodes v.found.notes c.requires.ready.sound.sizes.found.notes) in (
      elim c.self.invariant.place.capacity [ inl e ↦ rw e (lit< tt) | inr e ↦ rw e (lit< tt) ],
      (
        elim c.self.invariant.place.capacity [ inl e ↦ rw e (lit< tt) | inr e ↦ rw e (lit< tt) ],
        (c.requires.ready, (c.head.ensures, (tt, (says_row v c.args.agreed.now c.requires.own at ∙ sym (ap Report0 row), size)))),
      ),
    )

pub expectation-expect-requires : goal.expectation-expect-requires
expectation-expect-requires g c = (elim c.self.invariant.place.capacity [ inl e ↦ rw e (lit< tt) | inr e ↦ rw e (lit< tt) ], (lit< tt, (c.requires.round, few_due c.args.self.now (config_ok c.self.inside c.args.self.now c.self.invariant c.self.view_is) c.requires.ready.sound.sizes)))

pub say_round-requires-room-V-Item : goal.say_round-requires-room-V-Item
say_round-requires-room-V-Item g c = λ κs. elim c.self.invariant.place.capacity [ inl e ↦ rw e (lit< tt) | inr e ↦ rw e (lit< tt) ]

pub say_round-requires-room-V-RelayedItem : goal.say_round-requires-room-V-RelayedItem
say_round-requires-room-V-RelayedItem g c = λ κs. elim c.self.invariant.place.capacity [ inl e ↦ rw e (lit< tt) | inr e ↦ rw e (lit< tt) ]

pub say_round-requires-room-V-Eq : goal.say_round-requires-room-V-Eq
say_round-requires-room-V-Eq g c = λ κs. elim c.self.invariant.place.capacity [ inl e ↦ rw e (lit< tt) | inr e ↦ rw e (lit< tt) ]

pub say_round-requires-room-V-PartialEq : goal.say_round-requires-room-V-PartialEq
say_round-requires-room-V-PartialEq g c = λ κs. elim c.self.invariant.place.capacity [ inl e ↦ rw e (lit< tt) | inr e ↦ rw e (lit< tt) ]

pub say_round-requires : goal.say_round-requires
say_round-requires g c =
    let n = c.self.inside in
    let v = c.args.self.now in
    let is = c.self.view_is in
    let s = c.requires.ready.sound in
    let some : 0 < c.args.round = (let z = c.if-round-eq0.false in omega (arith, z)) in
    let low = c.requires.round in
    let rounds : n.rows.rounds ≡ v.config.m = ap (λ (w : NodeView g.row.N). w.rows.rounds) is ∙ s.sizes.rows.rounds_are in
    let asked = rows_asked_now n v is c.args.agreed.now c.requires.own s.sizes (s.in_slot c.requires.ready.is_open) _ c.args.round some low c.requires.slot c.expectation-expect.ensures in
    let frame = rows_frame n v is c.args.agreed.now c.requires.own s.sizes (s.in_slot c.requires.ready.is_open) _ c.args.round some c.requires.slot c.expectation-expect.ensures in
    let room = inside_fits n v (vec_capacity c.args.out.now) c.self.invariant is c.requires.ready in
    (elim c.self.invariant.place.capacity [ inl e ↦ rw e (lit< tt) | inr e ↦ rw e (lit< tt) ], (lit< tt, (some, (omega (arith, low, rounds), (asked, subst (λ (bytes : List ℕ). length bytes ≤ vec_capacity c.args.out.now) (sym frame) room)))))

pub returns-clause-written : goal.returns-clause-written
returns-clause-written g c =
    let s = c.requires.ready.sound in
    let some : 0 < c.args.round = (let z = c.if-round-eq0.false in omega (arith, z)) in
    c.say_round.ensures.written
    ∙ rows_frame c.self.inside c.args.self.now c.self.view_is c.args.agreed.now c.requires.own s.sizes (s.in_slot c.requires.ready.is_open) _ c.args.round some c.requires.slot c.expectation-expect.ensures

pub returns-then-round-eq0-clause-room : goal.returns-then-round-eq0-clause-room
returns-then-round-eq0-clause-room g c = c.write.ensures.room

pub returns-then-round-eq0-clause-written : goal.returns-then-round-eq0-clause-written
returns-then-round-eq0-clause-written g c = c.write.ensures.written

pub returns-clause-room : goal.returns-clause-room
returns-clause-room g c = c.say_round.ensures.room

pub head-requires : goal.head-requires
head-requires g c = elim c.self.invariant.place.capacity [ inl e ↦ rw e (lit< tt) | inr e ↦ rw e (lit< tt) ]

pub overflow_mul-self-inside : goal.overflow_mul-self-inside
overflow_mul-self-inside g c =
    let few = c.self.invariant.place.few in
    let cap = capacity-le g.row.N c.self.invariant.place.capacity in
    omega (arith, few, cap)

pub say_round-requires-room-V-Exact : goal.say_round-requires-room-V-Exact
say_round-requires-room-V-Exact g c = λ κs. elim g.bound-1.eight_or_sixteen [ inl e ↦ rw e (lit< tt) | inr e ↦ rw e (lit< tt) ]
