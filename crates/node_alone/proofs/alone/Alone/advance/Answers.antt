use Rattle.std.proofs.Common.{ℕ, ◌≡◌, ◌+◌, ap, ◌∙◌, arith, inl, inr, lit<}
use Rattle.node_steps.specs.Stages.{outcome_of}
use Rattle.node_alone.specs.View.{view_alone}
use Rattle.node_alone.specs.Stepping.{AloneView}
use Rattle.node_alone.proofs.alone.Alone.advance.Goals as goal

pub step-self-inside-requires : goal.step-self-inside-requires
step-self-inside-requires g c =
    let run : c.self.inside.run ≡ c.args.self.now.run = ap (λ (v : AloneView g.row.N). v.run) c.self.view_is in
    let periods : c.self.inside.input.now.scenario.periods ≡ c.args.self.now.input.scenario.periods = ap (λ (v : AloneView g.row.N). v.input.scenario.periods) c.self.view_is in (
      elim g.bound-1.eight_or_sixteen [ inl e ↦ rw e (lit< tt) | inr e ↦ rw e (lit< tt) ],
      (
        elim g.bound-1.eight_or_sixteen [ inl e ↦ rw e (lit< tt) | inr e ↦ rw e (lit< tt) ],
        (omega (arith, run, periods, c.requires.more), (c.self.invariant.node, c.self.invariant.rest)),
      ),
    )

pub record-shown-requires : goal.record-shown-requires
record-shown-requires g c = (elim g.bound-1.eight_or_sixteen [ inl e ↦ rw e (lit< tt) | inr e ↦ rw e (lit< tt) ], (elim g.bound-1.eight_or_sixteen [ inl e ↦ rw e (lit< tt) | inr e ↦ rw e (lit< tt) ], c.step-self-inside.ensures.after.shut))

pub invariant_of-self : goal.invariant_of-self
invariant_of-self g c =
    let p : ℕ = c.self.inside.run in
    record {
      input = c.self.invariant.input;
      node = c.step-self-inside.ensures.after;
      rest = c.step-self-inside.ensures.rest;
      last = λ q e. c.record-shown.ensures ∙ c.step-self-inside.ensures.shown ∙ ap (λ (n : ℕ). outcome_of (view_alone c.self.inside.input.now n)) (let same : p ≡ q = omega (arith, e) in same);
    }

pub overflow_add-self : goal.overflow_add-self
overflow_add-self g c =
    let run : c.self.inside.run ≡ c.args.self.now.run = ap (λ (v : AloneView g.row.N). v.run) c.self.view_is in
    let periods : c.self.inside.input.now.scenario.periods ≡ c.args.self.now.input.scenario.periods = ap (λ (v : AloneView g.row.N). v.input.scenario.periods) c.self.view_is in
    omega (arith, run, periods, c.requires.more, c.self.invariant.input.scenario.few_periods)

pub returns : goal.returns
returns g c = ap (λ (v : AloneView g.row.N). record v { run = v.run + 1 }) c.self.view_is
