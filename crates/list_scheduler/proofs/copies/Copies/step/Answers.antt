use Rattle.std.proofs.Common.{ℕ, List, inl, inr, lit<, ap, sym, ◌∙◌}
use Rattle.node_grid.specs.NodeSet.{has_id}
use Rattle.list_scheduler.proofs.Whole.{idle_rests, rests_after, after_frame, after_period}
use Rattle.list_scheduler.proofs.copies.Copies.step.Goals as goal

pub start_on-requires : goal.start_on-requires
start_on-requires g c =
    (elim g.bound-1.eight_or_sixteen [ inl e ↦ rw e (lit< tt) | inr e ↦ rw e (lit< tt) ], (lit< tt, (lit< tt, λ q on. idle_rests g.row.N q c.frame_end.new.self c.frame_end.ensures)))

pub start_on-requires-else-frame_ends : goal.start_on-requires-else-frame_ends
start_on-requires-else-frame_ends g c = (
  elim g.bound-1.eight_or_sixteen [ inl e ↦ rw e (lit< tt) | inr e ↦ rw e (lit< tt) ],
  (lit< tt, (lit< tt, λ q on. rests_after g.row.N q c.args.after.now c.move_all-busy.result c.move_all-busy.new.self c.len.ensures.ids c.move_all-busy.ensures.busy (ap (λ (s : List ℕ). has_id s q) (sym c.minus.ensures) ∙ on))),
)

pub returns-then-frame_ends : goal.returns-then-frame_ends
returns-then-frame_ends g c = λ frame p test.
    after_frame g.row.N c.args.graph.now frame p c.args.before.now c.args.after.now c.args.self.now c.frame_end.new.self c.start_on.new.self c.args.claims.now (sym test ∙ c.if-frame_ends.true) c.frame_end.ensures c.start_on.ensures

pub returns-else-frame_ends : goal.returns-else-frame_ends
returns-else-frame_ends g c = λ frame p test.
    after_period g.row.N c.args.graph.now frame p c.args.before.now c.args.after.now c.move_all-busy.result c.minus.result c.args.self.now c.move_all-busy.new.self c.start_on-else-frame_ends.new.self c.args.claims.now
    (sym test ∙ c.if-frame_ends.false) c.requires.copies c.len.ensures.ids c.move_all-busy.ensures.copies c.move_all-busy.ensures.busy c.minus.ensures c.start_on-else-frame_ends.ensures
