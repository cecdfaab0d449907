use Rattle.std.proofs.Common.{◌≡◌, ◌+◌, suc, refl, ap, ◌∙◌, arith, inl, inr, lit<}
use Rattle.node_steps.specs.Stages.{outcome_of}
use Rattle.node_alone.specs.Log.{RecordView}
use Rattle.node_alone.specs.View.{view_alone}
use Rattle.node_alone.specs.Stepping.{AloneView}
use Rattle.node_alone.proofs.alone.Alone.period.Goals as goal

pub returns : goal.returns
returns g c =
    let left = c.self.view_is ∙ c.advance.ensures in
    let one_more : c.self.inside.run ≡ c.args.self.now.run + 1 = ap (λ (s : AloneView g.row.N). s.run) left in
    let same : c.self.inside.input.now ≡ c.args.self.now.input = ap (λ (s : AloneView g.row.N). s.input) left in (
      (refl, (λ x. tt), left),
      record {
        after = tt;
        shown = c.self.invariant.last c.args.self.now.run (let e : c.self.inside.run ≡ suc c.args.self.now.run = omega (arith, one_more) in e) ∙ ap (λ (s : RecordView g.row.N). outcome_of (view_alone s c.args.self.now.run)) same;
      },
    )

pub advance-requires : goal.advance-requires
advance-requires g c = (elim g.bound-1.eight_or_sixteen [ inl e ↦ rw e (lit< tt) | inr e ↦ rw e (lit< tt) ], c.requires.more)
