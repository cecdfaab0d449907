use Rattle.std.proofs.Common.{◌<◌, ◌≤◌, subst, List, ℕ, inl, inr, lit<}
use Rattle.span_io.specs.Causes.{Writes}
use Rattle.run_print.specs.declared.WriteFault.{WriteFault}
use Rattle.top_call.proofs.Printed.{traced_is, shown_planned}
use Rattle.top_call.proofs.replay.trace_next.Goals as goal

pub returns-clause-wrote : goal.returns-clause-wrote
returns-clause-wrote g c =
    subst (λ (text : List ℕ). Writes {T = Unit {0}} {E = WriteFault} (g.K.Sink.written c.args.sink.now) (g.K.Sink.written c.write_period.new.sink) (g.K.Sink.faults c.args.sink.now) (g.K.Sink.faults c.write_period.new.sink) text c.write_period.result)
    (traced_is c.args.scenario.now c.args.cluster.now.scenario c.plan-plan.result.now c.period-shown.result.now c.args.cluster.now.run c.requires.same c.plan-plan.ensures.plan c.period-shown.ensures.shown)
    c.write_period.ensures

pub returns-clause-ran : goal.returns-clause-ran
returns-clause-ran g c = c.period-shown.follows.holds-at-none

pub plan-plan-requires : goal.plan-plan-requires
plan-plan-requires g c = elim g.bound-2.eight_or_sixteen [ inl e ↦ rw e (lit< tt, lit< tt) | inr e ↦ rw e (lit< tt, lit< tt) ]

pub period-shown-requires : goal.period-shown-requires
period-shown-requires g c =
    let more : c.args.cluster.now.run < c.args.cluster.now.scenario.periods = rw c.requires.same c.requires.more in
    (elim g.bound-2.eight_or_sixteen [ inl e ↦ rw e (lit< tt) | inr e ↦ rw e (lit< tt) ], (elim g.bound-2.eight_or_sixteen [ inl e ↦ rw e (lit< tt) | inr e ↦ rw e (lit< tt) ], more))

pub write_period-requires : goal.write_period-requires
write_period-requires g c = (
  elim g.bound-2.eight_or_sixteen [ inl e ↦ rw e (lit< tt) | inr e ↦ rw e (lit< tt) ],
  (
    lit< tt,
    λ e. shown_planned c.args.scenario.now c.args.cluster.now.scenario c.period-shown.result.now c.args.cluster.now.run c.requires.same c.plan-plan.ensures.scenario c.period-shown.ensures.shown c.plan-plan.result.now c.plan-plan.ensures.plan (rw c.requires.same c.requires.more),
  ),
)
