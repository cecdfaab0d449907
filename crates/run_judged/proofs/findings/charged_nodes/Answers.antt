use Rattle.std.proofs.Common.{ℕ, List, not, sym, ap, ◌∙◌, inl, inr, arith, lit<}
use Rattle.std.specs.Prelude.{◌==◌, slice_index}
use Rattle.node_grid.specs.NodeSet.{has_id}
use Rattle.node_grid.specs.NodeSetLaws.{has-filter}
use Rattle.run_judged.proofs.Founds.{charged_shown}
use Rattle.run_judged.proofs.findings.charged_nodes.Goals as goal

pub returns : goal.returns
returns g c =
    let masks = c.charged_all-masks.result in
    λ j low. ap (λ (xs : List ℕ). has_id xs j) c.marked_nodes.ensures ∙ has-filter (λ k. not (slice_index masks k == 0)) c.args.seen.now.shown.now.head.nodes j low
    ∙ charged_shown c.args.seen.now.shown.now c.in-Some.node j _ _ masks c.in-Some.is (c.args.seen.now.reference _ c.in-Some.is) (sym c.belief.ensures.rows) c.members.ensures (c.charged_all-masks.ensures.charged j low)

pub belief-requires : goal.belief-requires
belief-requires g c =
    let low = c.args.seen.now.reference _ c.in-Some.is in
    let few = c.args.seen.now.nodes in
    (elim g.bound-1.eight_or_sixteen [ inl e ↦ rw e (lit< tt) | inr e ↦ rw e (lit< tt) ], (elim g.bound-1.eight_or_sixteen [ inl e ↦ rw e (lit< tt) | inr e ↦ rw e (lit< tt) ], (omega arith, record { capacity = g.bound-1.eight_or_sixteen; many = c.args.seen.now.many; placed = c.args.seen.now.placed })))

pub members-requires : goal.members-requires
members-requires g c =
    let low = c.args.seen.now.reference _ c.in-Some.is in
    let few = c.args.seen.now.nodes in
    (elim g.bound-1.eight_or_sixteen [ inl e ↦ rw e (lit< tt) | inr e ↦ rw e (lit< tt) ], (lit< tt, omega arith))

pub charged_all-masks-requires : goal.charged_all-masks-requires
charged_all-masks-requires g c = (elim g.bound-1.eight_or_sixteen [ inl e ↦ rw e (lit< tt) | inr e ↦ rw e (lit< tt) ], (lit< tt, (elim g.bound-1.eight_or_sixteen [ inl e ↦ rw e (lit< tt) | inr e ↦ rw e (lit< tt) ], c.args.seen.now.nodes)))

pub marked_nodes-requires : goal.marked_nodes-requires
marked_nodes-requires g c = (elim g.bound-1.eight_or_sixteen [ inl e ↦ rw e (lit< tt) | inr e ↦ rw e (lit< tt) ], (lit< tt, c.args.seen.now.nodes))
