use Rattle.std.proofs.Common.{◌≡◌, ℕ, subst, sym, ap, ◌∙◌, arith, lit<}
use Rattle.std.specs.List.{flat_map}
use Rattle.node_grid.specs.NodeSet.{ids_below}
use Rattle.node_grid.specs.SetFacts.{flat_map_next}
use Rattle.slot_plan.specs.Slots.{slot_count}
use Rattle.cluster_periods.specs.Record.{PeriodView}
use Rattle.run_print.specs.Printing.{Prints}
use Rattle.run_print.proofs.Joining.{then, nothing}
use Rattle.run_text.specs.TraceText.{slot_text}
use Rattle.run_print.proofs.printer.Printer.frames.Goals as goal

pub slots_of-slot-end-requires : goal.slots_of-slot-end-requires
slots_of-slot-end-requires g c = (lit< tt, c.requires.planned.rounds ∙ sym (ap (λ (t : PeriodView). t.m) c.shown.view_is))

pub loop-slot-init : goal.loop-slot-init
loop-slot-init g c = nothing g.K.Sink.written g.K.Sink.faults c.args.self.now c.args.sink.now

pub loop-slot-smaller : goal.loop-slot-smaller
loop-slot-smaller g c = omega (arith, c.loop-slot-test.true)

pub loop-slot-preserved : goal.loop-slot-preserved
loop-slot-preserved g c = rw (flat_map_next (slot_text c.args.plan.now c.args.shown.now) c.loop-slot.slot) (then c.loop-slot.invariant c.slot.ensures)

pub returns : goal.returns
returns g c =
    let last : c.loop-slot.slot ≡ c.slots_of-slot-end.result = omega (arith, c.loop-slot-test.false, c.loop-slot.auto.slot-end) in
    let all : c.loop-slot.slot ≡ slot_count c.args.shown.now.m = last ∙ c.slots_of-slot-end.ensures ∙ ap (λ (t : PeriodView). slot_count t.m) c.shown.view_is in
    subst (λ (k : ℕ). Prints g.K.Sink.written g.K.Sink.faults c.args.self.now c.args.sink.now c.loop-slot.self c.loop-slot.sink
    (flat_map (slot_text c.args.plan.now c.args.shown.now) (ids_below k))) all c.loop-slot.invariant
