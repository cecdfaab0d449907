use Rattle.std.proofs.Common.{ℕ, ◌≡◌, ◌+◌, suc, inl, inr, lit<, refl, sym, ap, subst, ◌∙◌, arith, List}
use Rattle.error_detect.specs.Multiset.{Arriving}
use Rattle.node_steps.specs.Parts.{NodeView}
use Rattle.node_steps.specs.Steps.{after_slot}
use Rattle.node_steps.specs.Period.{slots_run}
use Rattle.node_alone.specs.Log.{Entry, arrivals}
use Rattle.node_alone.specs.Stepping.{handed, from_slot, IsReady}
use Rattle.node_alone.proofs.delivering.run_slots.Goals as goal

pub deliver_slot-next-requires : goal.deliver_slot-next-requires
deliver_slot-next-requires g c =
    let es : List Entry = c.args.entries.now in (
      elim g.bound-1.eight_or_sixteen [ inl e ↦ rw e (lit< tt) | inr e ↦ rw e (lit< tt) ],
      (subst (λ (v : NodeView g.row.N). IsReady v es) (sym c.loop-slot.invariant.node) (c.requires.ready c.loop-slot.slot c.loop-slot-test.true), (c.requires.ascends, c.loop-slot.invariant.rest)),
    )

pub slot_end-requires : goal.slot_end-requires
slot_end-requires g c = (
  elim g.bound-1.eight_or_sixteen [ inl e ↦ rw e (lit< tt) | inr e ↦ rw e (lit< tt) ],
  ap (λ (v : NodeView g.row.N). v.phase.is_open) (c.deliver_slot-next.ensures.given ∙ ap (λ (v : NodeView g.row.N). handed v (arrivals c.args.entries.now c.args.period c.loop-slot.slot)) c.loop-slot.invariant.node)
      ∙ (c.requires.ready c.loop-slot.slot c.loop-slot-test.true).is_open,
)

pub loop-slot-preserved : goal.loop-slot-preserved
loop-slot-preserved g c =
    let es : List Entry = c.args.entries.now in
    let ds : ℕ → List Arriving = arrivals es c.args.period in
    let t : ℕ = c.loop-slot.slot in
    record {
      node = c.slot_end.ensures ∙ ap after_slot c.deliver_slot-next.ensures.given ∙ ap (λ (v : NodeView g.row.N). after_slot (handed v (ds t))) c.loop-slot.invariant.node
          ∙ ap (λ (n : ℕ). slots_run ds n c.args.node.now) (let e : suc t ≡ t + 1 = omega arith in e);
      rest = c.deliver_slot-next.ensures.rest;
    }

pub returns-clause-after : goal.returns-clause-after
returns-clause-after g c =
    c.loop-slot.invariant.node ∙ ap (λ (t : ℕ). slots_run (arrivals c.args.entries.now c.args.period) t c.args.node.now) (let e : c.loop-slot.slot ≡ c.args.count = omega (arith, c.loop-slot.auto.slot-end, c.loop-slot-test.false) in e)

pub returns-clause-rest : goal.returns-clause-rest
returns-clause-rest g c =
    c.loop-slot.invariant.rest ∙ ap (λ (t : ℕ). from_slot c.args.period t c.args.entries.now) (let e : c.loop-slot.slot ≡ c.args.count = omega (arith, c.loop-slot.auto.slot-end, c.loop-slot-test.false) in e)

pub loop-slot-init : goal.loop-slot-init
loop-slot-init g c = record { node = refl; rest = c.requires.rest }

pub loop-slot-smaller : goal.loop-slot-smaller
loop-slot-smaller g c = omega (arith, c.loop-slot-test.true)
