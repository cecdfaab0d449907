use Rattle.std.proofs.Common.{refl, sym, ap, subst, ◌∙◌, inl, inr, lit<}
use Rattle.std.proofs.KnownBytes.{Keeps-refl}
use Rattle.span_io.specs.Causes.{Writes}
use Rattle.scenario.specs.Scenario.{ScenarioView}
use Rattle.run_print.specs.declared.WriteFault.{WriteFault}
use Rattle.at_once.specs.Run.{RunView}
use Rattle.top_call.specs.Run.{run_text}
use Rattle.top_call.proofs.Printed.{told_whole, told_faultless, told_fault, told_memory, other_error}
use Rattle.top_call.proofs.replay.write_untraced.Goals as goal

pub returns : goal.returns
returns g c =
    let same = ap (λ (r : RunView g.row.N). r.scenario) c.in-Ok.ensures in
    let wrote = subst (λ (sc : ScenarioView g.row.N). Writes {T = Unit {0}} {E = WriteFault} (g.K.Sink.written c.args.sink.now) (g.K.Sink.written c.print_all.new.sink) (g.K.Sink.faults c.args.sink.now) (g.K.Sink.faults c.print_all.new.sink) (run_text c.args.form sc) c.print_all.result) same c.print_all.ensures in
    let told = c.told.ensures in
    record {
      written = told_whole _ _ wrote told;
      faultless = told_faultless _ _ wrote told;
      safe = c.safe_runs.ensures g.row.N c.args.scenario.now c.periods-periods.ensures.scenario;
      write_fault = told_fault _ _ wrote told;
      no_memory = told_memory _ _ told;
    }

pub returns-in_default : goal.returns-in_default
returns-in_default g c = record {
  safe = c.safe_runs.ensures g.row.N c.args.scenario.now c.periods-periods.ensures.scenario;
  written = tt;
  faultless = tt;
  write_fault = λ e. absurd (other_error (sym e));
  no_memory = λ e. (Keeps-refl _, refl);
}

pub print_all-requires : goal.print_all-requires
print_all-requires g c =
    let fresh = ap (λ (r : RunView g.row.N). r.run) c.in-Ok.ensures in
    let same = ap (λ (r : RunView g.row.N). r.scenario.periods) c.in-Ok.ensures in (
      elim g.bound-2.eight_or_sixteen [ inl e ↦ rw e (lit< tt) | inr e ↦ rw e (lit< tt) ],
      (fresh, (c.requires.frames, c.periods-periods.ensures.periods ∙ sym same)),
    )

pub open-requires : goal.open-requires
open-requires g c = (
  elim g.bound-2.eight_or_sixteen [ inl e ↦ rw e (lit< tt) | inr e ↦ rw e (lit< tt) ],
  elim g.bound-2.eight_or_sixteen [ inl e ↦ rw e (lit< tt) | inr e ↦ rw e (lit< tt) ],
)

pub periods-periods-requires : goal.periods-periods-requires
periods-periods-requires g c = elim g.bound-2.eight_or_sixteen [ inl e ↦ rw e (lit< tt) | inr e ↦ rw e (lit< tt) ]
