use Rattle.std.proofs.Common.{◌≡◌, ℕ, ◌&&◌, List, true, inl, inr, lit<, ap, subst, sym, ◌∙◌}
use Rattle.std.specs.Prelude.{is_none}
use Rattle.std.proofs.lemmas.Bool.{and_parts}
use Rattle.node_grid.specs.NodeSet.{has_id}
use Rattle.node_grid.specs.NodeSetLaws.{passes_where, has-filter}
use Rattle.node_grid.specs.TruthFacts.{none_is}
use Rattle.list_scheduler.specs.Copies.{IsCopies, works}
use Rattle.list_scheduler.specs.ScheduleLaws.{graph_ordered, picked_kept}
use Rattle.list_scheduler.proofs.Picking.{picked_resting}
use Rattle.list_scheduler.proofs.copies.Copies.pick.Goals as goal

pub start_on-requires : goal.start_on-requires
start_on-requires g c = (
  elim g.bound-1.eight_or_sixteen [ inl e ↦ rw e (lit< tt) | inr e ↦ rw e (lit< tt) ],
  (
    lit< tt,
    (
      lit< tt,
      λ q on.
          let resting : (has_id c.args.members.now q && is_none (works c.args.self.now q)) ≡ true = passes_where (λ r. has_id c.args.members.now r && is_none (works c.args.self.now r)) g.row.N q (ap (λ (s : List ℕ). has_id s q) (sym c.resting-free.ensures) ∙ on) in
          none_is (works c.args.self.now q) (and_parts _ _ resting).1,
    ),
  ),
)

pub returns-clause-copies : goal.returns-clause-copies
returns-clause-copies g c =
    c.start_on.ensures ∙ picked_resting g.row.N c.args.graph.now c.args.members.now c.resting-free.result c.args.self.now (λ q hq.
    ap (λ (s : List ℕ). has_id s q) c.resting-free.ensures ∙ has-filter (λ r. has_id c.args.members.now r && is_none (works c.args.self.now r)) g.row.N q hq)

pub returns-clause-kept : goal.returns-clause-kept
returns-clause-kept g c = subst (IsCopies c.args.graph.now) (sym (returns-clause-copies g c))
    (picked_kept g.row.N c.args.graph.now c.args.members.now c.args.self.now (graph_ordered g.row.N c.args.graph.now c.len.ensures.graph) c.requires.copies)
