use Rattle.std.proofs.Common.{ℕ, map, get_or, Some, None, arith, lit<, inl, inr, sym, ap, subst, ◌∙◌}
use Rattle.std.proofs.lemmas.List.{get_or-map, length-map}
use Rattle.node_grid.specs.Capacity.{IsCapacity}
use Rattle.node_grid.specs.ListFacts.{map_map}
use Rattle.omh_paths.specs.declared.wrapped.Wrapped.TheVariants.{Fault}
use Rattle.protocol.specs.Settled.{plain}
use Rattle.relay_terms.specs.Terms.{said}
use Rattle.relaying.proofs.Settled.{IsFilledBelow, settled_none, settled_one, settled_not, filled_all}
use Rattle.relaying.proofs.settling.rows_of.Goals as goal
use Rattle.relaying.proofs.settling.rows_of.Goals.{in-Plain, in-Fault}

pub loop-node-init : goal.loop-node-init
loop-node-init g c =
    let item = λ (k : ℕ). plain (get_or (map said c.args.items.now) k (Fault 0)) in
    subst (λ ys. IsFilledBelow g.row.N None item 0 ys) (sym c.empty-rows.ensures) (settled_none g.row.N None item)

pub loop-node-preserved : goal.loop-node-preserved
loop-node-preserved g c =
    let k : ℕ = c.loop-node.node in
    let said_at = get_or-map said c.args.items.now k _ (Fault 0) (omega (arith, c.loop-node-test.true, c.type_inv.items)) ∙ sym c.value.ensures in
    let item = λ (i : ℕ). (plain (get_or (map said c.args.items.now) i (Fault 0))) in
    elim c.match-value.branch [
      | in-Plain w ↦ settled_one g.row.N None item k c.loop-node.rows _ (Some w.in-Plain.row) c.loop-node-test.true (w.rows-is ∙ w.set.ensures.rows) (sym (ap (λ x. (plain x)) (said_at ∙ w.in-Plain.is))) c.loop-node.invariant
      | in-Fault w ↦ settled_not g.row.N None item k c.loop-node.rows _ w.rows-is (ap (λ x. (plain x)) (said_at ∙ w.in-Fault.is)) c.loop-node.invariant
    ]

pub returns : goal.returns
returns g c =
    filled_all g.row.N c.loop-node.node None (λ x. (plain x)) (map said c.args.items.now) (Fault 0) c.loop-node.rows (length-map c.args.items.now said ∙ c.type_inv.items) (omega (arith, c.loop-node-test.false)) c.loop-node.invariant
    ∙ map_map said (λ x. (plain x)) c.args.items.now

pub empty-rows-requires : goal.empty-rows-requires
empty-rows-requires g c = elim g.bound-1.eight_or_sixteen [ inl e ↦ rw e (lit< tt) | inr e ↦ rw e (lit< tt) ]

pub set-requires : goal.set-requires
set-requires g c =
    (elim g.bound-1.eight_or_sixteen [ inl e ↦ rw e (lit< tt) | inr e ↦ rw e (lit< tt) ], (elim g.bound-1.eight_or_sixteen [ inl e ↦ rw e (lit< tt) | inr e ↦ rw e (lit< tt) ], c.loop-node-test.true))

pub overflow_cast-node-end : goal.overflow_cast-node-end
overflow_cast-node-end g c = let cap : IsCapacity g.row.N = g.bound-1.eight_or_sixteen in omega arith
