use Rattle.std.proofs.Common.{sym, subst, ◌∙◌, inl, inr, lit<}
use Rattle.top_call.specs.declared.form.Form.{Form}
use Rattle.top_call.specs.Run.{IsRun}
use Rattle.top_call.proofs.Printed.{is_trace}
use Rattle.top_call.proofs.replay.run_and_write.Goals as goal

pub returns-then-has_frames : goal.returns-then-has_frames
returns-then-has_frames g c =
    subst (λ (f : Form). IsRun f c.args.scenario.now (g.K.Sink.written c.args.sink.now) (g.K.Sink.written c.write_traced.new.sink) (g.K.Sink.faults c.args.sink.now)
    (g.K.Sink.faults c.write_traced.new.sink) c.write_traced.result)
    (is_trace c.args.form (sym c.has_frames.ensures ∙ c.if-has_frames.true)) c.write_traced.ensures

pub write_traced-requires : goal.write_traced-requires
write_traced-requires g c = elim g.bound-2.eight_or_sixteen [ inl e ↦ rw e (lit< tt) | inr e ↦ rw e (lit< tt) ]

pub write_untraced-requires : goal.write_untraced-requires
write_untraced-requires g c = (elim g.bound-2.eight_or_sixteen [ inl e ↦ rw e (lit< tt) | inr e ↦ rw e (lit< tt) ], sym c.has_frames.ensures ∙ c.if-has_frames.false)

pub returns-else-has_frames : goal.returns-else-has_frames
returns-else-has_frames g c = c.write_untraced.ensures
