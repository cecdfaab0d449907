use Rattle.std.proofs.Common.{sym, ◌∙◌, lit<, arith, inl, inr}
use Rattle.list_scheduler.proofs.Leaving.{left_running, left_other}
use Rattle.list_scheduler.proofs.copies.Copies.leave.Goals as goal
use Rattle.list_scheduler.proofs.copies.Copies.leave.Goals.{in-Running, in_default}

pub loop-t-preserved : goal.loop-t-preserved
loop-t-preserved g c = elim c.match-at.branch [
  | in-Running w ↦ w.self-is ∙ left_running g.row.N c.loop-t.t c.args.node w.in-Running.field-0 c.args.self.now c.loop-t.self w.set.new.self c.loop-t-test.true c.requires.node c.loop-t.invariant
      (sym c.at.ensures.copy ∙ w.in-Running.is) w.set.ensures
  | in_default w ↦ w.self-is ∙ left_other g.row.N c.loop-t.t c.args.node c.args.self.now c.loop-t.self c.loop-t-test.true c.requires.node c.loop-t.invariant
      (λ e runs. w.in_default.not-Running e (c.at.ensures.copy ∙ runs))
]

pub at-requires : goal.at-requires
at-requires g c = (elim g.bound-1.eight_or_sixteen [ inl e ↦ rw e (lit< tt) | inr e ↦ rw e (lit< tt) ], (c.loop-t-test.true, c.requires.node))

pub set-requires : goal.set-requires
set-requires g c = (elim g.bound-1.eight_or_sixteen [ inl e ↦ rw e (lit< tt) | inr e ↦ rw e (lit< tt) ], (c.loop-t-test.true, c.requires.node))

pub loop-t-smaller : goal.loop-t-smaller
loop-t-smaller g c = omega (arith, c.loop-t-test.true)
