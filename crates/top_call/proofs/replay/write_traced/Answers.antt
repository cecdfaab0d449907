use Rattle.std.proofs.Common.{refl, sym, inl, inr, lit<}
use Rattle.std.proofs.KnownBytes.{Keeps-refl}
use Rattle.top_call.proofs.Printed.{told_whole, told_faultless, told_fault, told_memory, other_error}
use Rattle.top_call.proofs.replay.write_traced.Goals as goal

pub drop-cluster-inside-requires-room-T-Destruct : goal.drop-cluster-inside-requires-room-T-Destruct
drop-cluster-inside-requires-room-T-Destruct g c κs = elim g.bound-2.eight_or_sixteen [ inl e ↦ rw e (lit< tt) | inr e ↦ rw e (lit< tt) ]

pub returns : goal.returns
returns g c =
    let wrote = c.trace_all.ensures in
    let told = c.told.ensures in
    record {
      written = told_whole _ _ wrote told;
      faultless = told_faultless _ _ wrote told;
      safe = c.safe_runs.ensures g.row.N c.args.scenario.now c.periods-periods.ensures.scenario;
      write_fault = told_fault _ _ wrote told;
      no_memory = told_memory _ _ told;
    }

pub trace_all-requires : goal.trace_all-requires
trace_all-requires g c = (
  elim g.bound-2.eight_or_sixteen [ inl e ↦ rw e (lit< tt) | inr e ↦ rw e (lit< tt) ],
  (
    elim g.bound-2.eight_or_sixteen [ inl e ↦ rw e (lit< tt) | inr e ↦ rw e (lit< tt) ],
    (
      c.in-Ok.ensures,
      c.periods-periods.ensures.periods,
    ),
  ),
)

pub periods-periods-requires : goal.periods-periods-requires
periods-periods-requires g c = elim g.bound-2.eight_or_sixteen [ inl e ↦ rw e (lit< tt) | inr e ↦ rw e (lit< tt) ]

pub open-requires : goal.open-requires
open-requires g c = (elim g.bound-2.eight_or_sixteen [ inl e ↦ rw e (lit< tt) | inr e ↦ rw e (lit< tt) ], elim g.bound-2.eight_or_sixteen [ inl e ↦ rw e (lit< tt) | inr e ↦ rw e (lit< tt) ])

pub returns-in_default : goal.returns-in_default
returns-in_default g c = record {
  safe = c.safe_runs.ensures g.row.N c.args.scenario.now c.periods-periods.ensures.scenario;
  written = tt;
  faultless = tt;
  write_fault = λ e. absurd (other_error (sym e));
  no_memory = λ e. (Keeps-refl _, refl);
}
