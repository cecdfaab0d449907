use Rattle.std.proofs.Common.{List, ℕ, subst, inl, inr, lit<}
use Rattle.run_print.specs.Printing.{Prints}
use Rattle.top_call.proofs.AtOnce.{is_replay, printed_head, printed_lines, fits_print}
use Rattle.top_call.proofs.replay.print_next.Goals as goal

pub returns-in-Check-clause-prints : goal.returns-in-Check-clause-prints
returns-in-Check-clause-prints g c =
    subst (λ (text : List ℕ). Prints g.K.Sink.written g.K.Sink.faults c.args.printer.now c.args.sink.now c.shown_head.new.self c.shown_head.new.sink text)
    (printed_head c.args.run.now.scenario c.args.run.now.run c.period-shown.result.now c.args.form c.in-Check.is c.period-shown.ensures.shown)
    c.shown_head.ensures

pub returns-in-Replay-clause-prints : goal.returns-in-Replay-clause-prints
returns-in-Replay-clause-prints g c =
    subst (λ (text : List ℕ). Prints g.K.Sink.written g.K.Sink.faults c.args.printer.now c.args.sink.now c.shown_period.new.self c.shown_period.new.sink text)
    (printed_lines c.args.run.now.scenario c.args.run.now.run c.period-shown.result.now c.args.form (is_replay c.args.form c.in-Replay.is c.requires.frames) c.period-shown.ensures.shown)
    c.shown_period.ensures

pub returns-in-Check-clause-ran : goal.returns-in-Check-clause-ran
returns-in-Check-clause-ran g c = c.period-shown.follows.holds-at-none

pub returns-in-Replay-clause-ran : goal.returns-in-Replay-clause-ran
returns-in-Replay-clause-ran g c = c.period-shown.follows.holds-at-none

pub shown_period-requires : goal.shown_period-requires
shown_period-requires g c = (
  lit< tt,
  (elim g.bound-2.eight_or_sixteen [ inl e ↦ rw e (lit< tt) | inr e ↦ rw e (lit< tt) ], fits_print c.args.run.now.scenario c.period-shown.result.now c.period-shown.ensures.fits),
)

pub shown_head-requires : goal.shown_head-requires
shown_head-requires g c = (lit< tt, elim g.bound-2.eight_or_sixteen [ inl e ↦ rw e (lit< tt) | inr e ↦ rw e (lit< tt) ])

pub period-shown-requires : goal.period-shown-requires
period-shown-requires g c = (elim g.bound-2.eight_or_sixteen [ inl e ↦ rw e (lit< tt) | inr e ↦ rw e (lit< tt) ], (elim g.bound-2.eight_or_sixteen [ inl e ↦ rw e (lit< tt) | inr e ↦ rw e (lit< tt) ], c.requires.more))
