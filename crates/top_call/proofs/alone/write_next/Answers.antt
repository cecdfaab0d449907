use Rattle.std.proofs.Common.{◌<◌, ◌≤◌, ◌+◌, inl, inr, lit<, ap, ◌∙◌, subst, List, ℕ}
use Rattle.span_io.specs.Causes.{Writes}
use Rattle.run_print.specs.declared.WriteFault.{WriteFault}
use Rattle.node_alone.specs.Stepping.{AloneView}
use Rattle.top_call.proofs.Printed.{log_printed_is}
use Rattle.top_call.proofs.alone.write_next.Goals as goal

pub period-requires : goal.period-requires
period-requires g c =
    let more : c.args.alone.now.run < c.args.alone.now.input.scenario.periods = rw c.requires.same c.requires.more in
    (elim g.bound-2.eight_or_sixteen [ inl e ↦ rw e (lit< tt) | inr e ↦ rw e (lit< tt) ], (elim g.bound-2.eight_or_sixteen [ inl e ↦ rw e (lit< tt) | inr e ↦ rw e (lit< tt) ], more))

pub write_alone-requires : goal.write_alone-requires
write_alone-requires g c = (elim g.bound-2.eight_or_sixteen [ inl e ↦ rw e (lit< tt) | inr e ↦ rw e (lit< tt) ], elim g.bound-2.eight_or_sixteen [ inl e ↦ rw e (lit< tt) | inr e ↦ rw e (lit< tt) ])

pub returns-clause-wrote : goal.returns-clause-wrote
returns-clause-wrote g c =
    subst (λ (text : List ℕ). Writes {T = Unit {0}} {E = WriteFault} (g.K.Sink.written c.args.sink.now) (g.K.Sink.written c.write_alone.new.sink) (g.K.Sink.faults c.args.sink.now) (g.K.Sink.faults c.write_alone.new.sink) text c.write_alone.result)
    (log_printed_is c.args.log.now c.args.alone.now c.args.period c.config-config.result.now c.id.result c.period.result.now c.requires.same c.config-config.ensures.config c.id.ensures.id c.period.ensures.shown)
    c.write_alone.ensures

pub config-config-requires : goal.config-config-requires
config-config-requires g c = elim g.bound-2.eight_or_sixteen [ inl e ↦ rw e (lit< tt, lit< tt) | inr e ↦ rw e (lit< tt, lit< tt) ]

pub id-requires : goal.id-requires
id-requires g c = elim g.bound-2.eight_or_sixteen [ inl e ↦ rw e (lit< tt) | inr e ↦ rw e (lit< tt) ]

pub returns-clause-ran : goal.returns-clause-ran
returns-clause-ran g c = c.period.follows.holds-at-none ∙ ap (λ (v : AloneView g.row.N). record v { run = v.run + 1 }) c.requires.same
