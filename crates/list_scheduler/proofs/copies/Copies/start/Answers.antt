use Rattle.std.proofs.Common.{ℕ, ◌++◌, List, refl, ap, subst, sym, ◌∙◌, inl, inr, lit<}
use Rattle.node_grid.specs.ListFacts.{tail_shorter}
use Rattle.list_scheduler.specs.Copies.{IsTable}
use Rattle.list_scheduler.specs.declared.copies.CopyState.TheVariants.{Running}
use Rattle.list_scheduler.proofs.Moving.{among_none, among_more}
use Rattle.list_scheduler.proofs.Members.{one_more, next_within}
use Rattle.list_scheduler.proofs.copies.Copies.start.Goals as goal

pub loop-node-init : goal.loop-node-init
loop-node-init g c = record {
  can = tt;
  ends = tt;
  split = sym (c.into_iter-node-iterator.ensures.into_iter_gives ∙ c.iter-node-items.ensures.members);
  copies = among_none g.row.N c.args.t (λ t q. Running 1) c.args.self.now (subst (IsTable g.row.N) c.self.view_is c.self.invariant);
}

pub loop-node-preserved : goal.loop-node-preserved
loop-node-preserved g c = record {
  can = tt;
  ends = tt;
  split = one_more c.args.nodes.now c.loop-node.yielded c.in-Some.node c.next.new.self (c.loop-node.invariant.split ∙ ap (λ (xs : List ℕ). c.loop-node.yielded ++ xs) c.in-Some.ensures.steps);
  copies = among_more g.row.N c.args.t c.in-Some.node c.loop-node.yielded (λ t q. Running 1) c.args.self.now c.loop-node.self c.set.new.self (Running 1) c.loop-node.invariant.copies refl c.set.ensures;
}

pub iter-node-items-requires : goal.iter-node-items-requires
iter-node-items-requires g c = (lit< tt, lit< tt)

pub loop-node-smaller : goal.loop-node-smaller
loop-node-smaller g c = tail_shorter c.in-Some.ensures.steps

pub next-requires : goal.next-requires
next-requires g c = (lit< tt, tt)

pub set-requires : goal.set-requires
set-requires g c = (
  elim g.bound-1.eight_or_sixteen [ inl e ↦ rw e (lit< tt) | inr e ↦ rw e (lit< tt) ],
  (
    c.requires.task,
    next_within g.row.N c.args.nodes.now c.loop-node.yielded c.iter-node-items.ensures.ids c.loop-node.invariant.split c.in-Some.ensures.steps,
  ),
)
