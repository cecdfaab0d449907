use Rattle.std.proofs.Common.{inl, inr, lit<}
use Rattle.shown_period.proofs.Ending.{whole_is, before_next}
use Rattle.shown_period.proofs.shown.Shown.end.Goals as goal

pub returns-clause-shows : goal.returns-clause-shows
returns-clause-shows g c = whole_is c.args.scenario.now c.args.period c.args.self.now.head c.next_clocks-clock.result c.requires.begun c.next_clocks-clock.ensures c.args.self.now.made c.requires.made

pub returns-clause-before : goal.returns-clause-before
returns-clause-before g c = before_next c.args.scenario.now c.args.period c.args.self.now.head c.next_clocks-clock.result c.requires.begun c.next_clocks-clock.ensures

pub next_clocks-clock-requires : goal.next_clocks-clock-requires
next_clocks-clock-requires g c = (
  elim g.bound-1.eight_or_sixteen [ inl e ↦ rw e (lit< tt) | inr e ↦ rw e (lit< tt) ],
  (
    elim g.bound-1.eight_or_sixteen [ inl e ↦ rw e (lit< tt) | inr e ↦ rw e (lit< tt) ],
    (elim g.bound-1.eight_or_sixteen [ inl e ↦ rw e (lit< tt) | inr e ↦ rw e (lit< tt) ], (c.requires.begun.in_run, (c.requires.made, c.requires.begun.clocks))),
  ),
)
