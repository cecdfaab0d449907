use Rattle.std.proofs.Common.{suc, ◌≡◌, ◌+◌, refl, ap, subst, ◌∙◌, inl, inr, lit<, arith}
use Rattle.scenario.specs.Scenario.{ScenarioView}
use Rattle.at_once.specs.Run.{RunView, ShowsPeriod, FitsScenario}
use Rattle.at_once.proofs.run.Run.period.Goals as goal

pub returns : goal.returns
returns g c =
    let left = c.self.view_is ∙ c.advance.ensures in
    let one_more : c.self.inside.run ≡ c.args.self.now.run + 1 = ap (λ (s : RunView g.row.N). s.run) left in
    let same : c.self.inside.scenario.now ≡ c.args.self.now.scenario = ap (λ (s : RunView g.row.N). s.scenario) left in (
      (refl, (λ x. tt), left),
      record {
        after = tt;
        shown = subst (λ (s : ScenarioView g.row.N). ShowsPeriod s c.args.self.now.run c.self.inside.shown) same
            (c.self.invariant.last c.args.self.now.run (let e : c.self.inside.run ≡ suc c.args.self.now.run = omega (arith, one_more) in e));
        fits = subst (λ (s : ScenarioView g.row.N). FitsScenario s c.self.inside.shown) same
            (record { scenario = c.self.invariant.scenario; shape = c.self.invariant.before.shape; beliefs = c.self.invariant.beliefs; agreed = c.self.invariant.kept.used.agreed });
      },
    )

pub advance-requires : goal.advance-requires
advance-requires g c = (elim g.bound-1.eight_or_sixteen [ inl e ↦ rw e (lit< tt) | inr e ↦ rw e (lit< tt) ], c.requires.more)
