use Rattle.std.proofs.Common.{◌≡◌, ℕ, List, None, not, ap, sym, subst, arith, ◌∙◌, append-nil, inl, inr, lit<}
use Rattle.std.specs.List.{flat_map}
use Rattle.node_grid.specs.NodeSet.{ids_below}
use Rattle.node_grid.specs.SetFacts.{flat_map_next}
use Rattle.fault_classes.specs.Change.{change_of}
use Rattle.fault_classes.specs.Line.{effect_at}
use Rattle.cluster_periods.specs.Record.{PeriodView}
use Rattle.run_text.specs.TraceText.{link_text}
use Rattle.run_print.specs.Printing.{Prints}
use Rattle.run_print.proofs.Joining.{then, nothing}
use Rattle.run_print.proofs.Lists.{link_some, link_none, link_untouched, no_effect}
use Rattle.run_print.proofs.printer.Printer.receivers.Goals as goal
use Rattle.run_print.proofs.printer.Printer.receivers.Goals.{then-to-from+then-is_none, then-to-from+else-is_none, else-to-from}

pub loop-to-preserved : goal.loop-to-preserved
loop-to-preserved g c =
    let plan = c.args.traced.now.plan.now in
    let shown = c.args.traced.now.shown.now in
    let slot = c.args.traced.now.slot in
    let from = c.args.from in
    let to = c.loop-to.to in
    let before : List ℕ = flat_map (link_text plan shown slot from) (ids_below to) in
    let period : c.shown.inside.period ≡ shown.period = ap (λ v. v.period) c.shown.view_is in
    elim c.if-to-from.branch [
      | then-to-from+then-is_none w ↦
          let untouched : effect_at plan.lines c.shown.inside.period slot from to ≡ None =
          no_effect (λ e. change_of e.now) w.effect.result (effect_at plan.lines c.shown.inside.period slot from to) (ap not (w.is_none.ensures ∙ ap not w.if-is_none.true)) w.effect.ensures in
          rw (w.self-is, w.sink-is, flat_map_next (link_text plan shown slot from) to, link_untouched plan shown slot from to w.if-to-from.true (rw period at untouched))
          (then {xs = before} c.loop-to.invariant (rw (c.rest_of-rest.ensures, c.sent-sent.ensures.bytes, c.as_slice-start.ensures.value, c.start_of-written.ensures, period) at w.untouched.ensures))
      | then-to-from+else-is_none w ↦
          rw (w.self-is, w.sink-is, flat_map_next (link_text plan shown slot from) to, link_some plan shown slot from to w.if-to-from.true)
          (then {xs = before} c.loop-to.invariant (rw (w.deliveries-delivered.ensures, c.sent-sent.ensures.bytes, c.as_slice-start.ensures.value, c.start_of-written.ensures, period) at w.copies.ensures))
      | else-to-from w ↦
          rw (w.self-is, w.sink-is, flat_map_next (link_text plan shown slot from) to, link_none plan shown slot from to w.if-to-from.false, append-nil before) c.loop-to.invariant
    ]

pub untouched-requires : goal.untouched-requires
untouched-requires g c = assumption

pub loop-to-init : goal.loop-to-init
loop-to-init g c = nothing g.K.Sink.written g.K.Sink.faults c.args.self.now c.args.sink.now

pub loop-to-smaller : goal.loop-to-smaller
loop-to-smaller g c = omega (arith, c.loop-to-test.true)

pub returns : goal.returns
returns g c =
    let nodes : c.shown.inside.nodes ≡ c.args.traced.now.shown.now.nodes = ap (λ (t : PeriodView). t.nodes) c.shown.view_is in
    let last : c.loop-to.to ≡ c.args.traced.now.shown.now.nodes = omega (arith, nodes, c.loop-to-test.false, c.loop-to.auto.to-end) in
    subst (λ (k : ℕ). Prints g.K.Sink.written g.K.Sink.faults c.args.self.now c.args.sink.now c.loop-to.self c.loop-to.sink
    (flat_map (link_text c.args.traced.now.plan.now c.args.traced.now.shown.now c.args.traced.now.slot c.args.from) (ids_below k))) last c.loop-to.invariant

pub sent-sent-requires : goal.sent-sent-requires
sent-sent-requires g c = (elim g.bound-2.eight_or_sixteen [ inl e ↦ rw e (lit< tt) | inr e ↦ rw e (lit< tt) ], (c.requires.from, c.args.traced.now.in_period))

pub start_of-written-requires : goal.start_of-written-requires
start_of-written-requires g c = tt

pub as_slice-start-requires : goal.as_slice-start-requires
as_slice-start-requires g c = lit< tt

pub effect-requires : goal.effect-requires
effect-requires g c =
    let period : c.shown.inside.period ≡ c.args.traced.now.shown.now.period = ap (λ (t : PeriodView). t.period) c.shown.view_is in
    let nodes : c.shown.inside.nodes ≡ c.args.traced.now.shown.now.nodes = ap (λ (t : PeriodView). t.nodes) c.shown.view_is in (
      lit< tt,
      (
        omega (arith, period, c.args.traced.now.periods),
        (
          rw c.args.traced.now.rounds c.args.traced.now.in_period,
          (rw c.args.traced.now.nodes c.requires.from, (omega (arith, c.args.traced.now.nodes, nodes, c.loop-to-test.true), λ e. c.if-to-from.true (sym e))),
        ),
      ),
    )
