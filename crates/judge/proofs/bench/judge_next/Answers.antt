use Rattle.std.proofs.Common.{inl, inr, lit<}
use Rattle.at_once.specs.Run.{ShowsPeriod, FitsScenario}
use Rattle.judge.proofs.Following.{is_more, follows}
use Rattle.judge.proofs.bench.judge_next.Goals as goal

pub period-shown-requires : goal.period-shown-requires
period-shown-requires g c =
    (elim g.bound-1.eight_or_sixteen [ inl e ↦ rw e (lit< tt) | inr e ↦ rw e (lit< tt) ], (elim g.bound-1.eight_or_sixteen [ inl e ↦ rw e (lit< tt) | inr e ↦ rw e (lit< tt) ], c.requires.more))

pub add-requires : goal.add-requires
add-requires g c = (
  lit< tt,
  (
    elim g.bound-1.eight_or_sixteen [ inl e ↦ rw e (lit< tt) | inr e ↦ rw e (lit< tt) ],
    (
      elim g.bound-1.eight_or_sixteen [ inl e ↦ rw e (lit< tt) | inr e ↦ rw e (lit< tt) ],
      (
        is_more c.args.scenario.now c.args.run.now.scenario c.args.judge.now.periods c.args.run.now.run c.requires.same c.requires.together c.requires.more,
        (
          c.requires.judges,
          (
            follows c.args.scenario.now c.args.run.now.scenario c.args.judge.now.periods c.args.run.now.run c.requires.same c.requires.together (λ s k. ShowsPeriod s k c.period-shown.result.now) c.period-shown.ensures.shown,
            follows c.args.scenario.now c.args.run.now.scenario c.args.judge.now.periods c.args.run.now.run c.requires.same c.requires.together (λ s k. FitsScenario s c.period-shown.result.now) c.period-shown.ensures.fits,
          ),
        ),
      ),
    ),
  ),
)
