use Rattle.std.proofs.Common.{inl, inr, lit<}
use Rattle.top_call.proofs.replay.replay_at.Goals as goal
use Rattle.top_call.proofs.replay.replay_at.Goals.{then-trace, else-trace}

pub run_and_write-requires : goal.run_and_write-requires
run_and_write-requires g c = elim g.bound-2.eight_or_sixteen [ inl e ↦ rw e (lit< tt) | inr e ↦ rw e (lit< tt) ]

pub returns : goal.returns
returns g c = elim c.if-trace.branch [
  | then-trace w ↦ rw w.if-trace.true (rw w.form-is at c.run_and_write.ensures)
  | else-trace w ↦ rw w.if-trace.false (rw w.form-is at c.run_and_write.ensures)
]
