use Rattle.std.proofs.Common.{ℕ, ◌<◌, ◌++◌, ◌∷◌, [], List, length, ap, subst, sym, ◌∙◌, inl, inr, lit<, arith}
use Rattle.std.proofs.lemmas.List.{get_or_default}
use Rattle.node_grid.specs.ListFacts.{tail_shorter}
use Rattle.omh_paths.specs.declared.wrapped.Wrapped.TheVariants.{Fault}
use Rattle.list_scheduler.specs.Copies.{IsTable, IsCopies}
use Rattle.list_scheduler.specs.ScheduleLaws.{graph_ordered, completed_kept}
use Rattle.list_scheduler.proofs.Completing.{completed_more, verdicts_more, verdicts_none}
use Rattle.node_grid.specs.CapacityLaws.{capacity-le}
use Rattle.list_scheduler.proofs.Members.{next_member, one_more, next_within}
use Rattle.list_scheduler.proofs.copies.Copies.complete.Goals as goal

pub loop-node-init : goal.loop-node-init
loop-node-init g c = record {
  can = tt;
  ends = tt;
  split = sym (c.into_iter-node-iterator.ensures.into_iter_gives ∙ c.iter-node-items.ensures.members);
  copies = subst (IsTable g.row.N) c.self.view_is c.self.invariant;
  kept = c.requires.copies;
  verdicts = verdicts_none g.row.N c.args.graph.now c.args.self.now c.args.claims.now c.none-verdicts.result c.none-verdicts.ensures;
}

pub loop-node-preserved : goal.loop-node-preserved
loop-node-preserved g c =
    let split = c.loop-node.invariant.split ∙ ap (λ (xs : List ℕ). c.loop-node.yielded ++ xs) c.in-Some.ensures.steps in
    let next = next_member g.row.N c.args.members.now c.loop-node.yielded c.in-Some.node c.next.new.self c.iter-node-items.ensures.ids split in
    let l : c.in-Some.node < length c.args.claims.now = subst (λ (k : ℕ). c.in-Some.node < k) (sym c.told-claims) next.within in
    let says = get_or_default c.args.claims.now c.in-Some.node _ (Fault 0) l in
    let now = completed_more g.row.N c.args.graph.now c.loop-node.yielded c.args.self.now c.loop-node.self c.complete_one.new.self c.args.claims.now c.in-Some.node _ c.loop-node.invariant.copies next says c.complete_one.ensures.copies in
    record {
      can = tt;
      ends = tt;
      split = one_more c.args.members.now c.loop-node.yielded c.in-Some.node c.next.new.self split;
      copies = now;
      kept = subst (IsCopies c.args.graph.now) (sym now)
          (completed_kept g.row.N c.args.graph.now (c.loop-node.yielded ++ c.in-Some.node ∷ []) c.args.self.now c.args.claims.now (graph_ordered g.row.N c.args.graph.now c.len.ensures.graph) c.requires.copies);
      verdicts = verdicts_more g.row.N c.args.graph.now c.loop-node.yielded c.args.self.now c.loop-node.self c.args.claims.now c.in-Some.node _ c.loop-node.verdicts c.complete_one.result
          c.loop-node.invariant.copies next says c.complete_one.ensures.verdict c.loop-node.invariant.verdicts;
    }

pub bounds-claims-node : goal.bounds-claims-node
bounds-claims-node g c = next_within g.row.N c.args.members.now c.loop-node.yielded c.iter-node-items.ensures.ids c.loop-node.invariant.split c.in-Some.ensures.steps

pub bounds-verdicts-node : goal.bounds-verdicts-node
bounds-verdicts-node g c = next_within g.row.N c.args.members.now c.loop-node.yielded c.iter-node-items.ensures.ids c.loop-node.invariant.split c.in-Some.ensures.steps

pub complete_one-requires : goal.complete_one-requires
complete_one-requires g c = (
  elim g.bound-1.eight_or_sixteen [ inl e ↦ rw e (lit< tt) | inr e ↦ rw e (lit< tt) ],
  (lit< tt, (next_within g.row.N c.args.members.now c.loop-node.yielded c.iter-node-items.ensures.ids c.loop-node.invariant.split c.in-Some.ensures.steps, c.loop-node.invariant.kept)),
)

pub iter-node-items-requires : goal.iter-node-items-requires
iter-node-items-requires g c = (lit< tt, lit< tt)

pub len-requires : goal.len-requires
len-requires g c = lit< tt

pub loop-node-smaller : goal.loop-node-smaller
loop-node-smaller g c = tail_shorter c.in-Some.ensures.steps

pub next-requires : goal.next-requires
next-requires g c = (lit< tt, tt)

pub none-verdicts-requires : goal.none-verdicts-requires
none-verdicts-requires g c = tt

pub offset_bounds-claims-node : goal.offset_bounds-claims-node
offset_bounds-claims-node g c =
    let low : c.in-Some.node < g.row.N =
    next_within g.row.N c.args.members.now c.loop-node.yielded c.iter-node-items.ensures.ids c.loop-node.invariant.split c.in-Some.ensures.steps in
    omega (arith, low, capacity-le g.row.N g.bound-1.eight_or_sixteen)

pub offset_bounds-verdicts-node : goal.offset_bounds-verdicts-node
offset_bounds-verdicts-node g c =
    let low : c.in-Some.node < g.row.N =
    next_within g.row.N c.args.members.now c.loop-node.yielded c.iter-node-items.ensures.ids c.loop-node.invariant.split c.in-Some.ensures.steps in
    omega (arith, low, capacity-le g.row.N g.bound-1.eight_or_sixteen)

pub overflow_cast-node : goal.overflow_cast-node
overflow_cast-node g c =
    let low : c.in-Some.node < g.row.N =
    next_within g.row.N c.args.members.now c.loop-node.yielded c.iter-node-items.ensures.ids c.loop-node.invariant.split c.in-Some.ensures.steps in
    omega (arith, low, capacity-le g.row.N g.bound-1.eight_or_sixteen)

pub overflow_cast-node-in-loop-node : goal.overflow_cast-node-in-loop-node
overflow_cast-node-in-loop-node g c =
    let low : c.in-Some.node < g.row.N =
    next_within g.row.N c.args.members.now c.loop-node.yielded c.iter-node-items.ensures.ids c.loop-node.invariant.split c.in-Some.ensures.steps in
    omega (arith, low, capacity-le g.row.N g.bound-1.eight_or_sixteen)
