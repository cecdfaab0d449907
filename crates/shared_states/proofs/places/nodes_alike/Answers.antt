use Rattle.std.proofs.Common.{◌≡◌, ℕ, List, ◌+◌, true, false, sym, subst, ◌∙◌, inl, inr, arith}
use Rattle.std.proofs.lemmas.Bool.{cases_lt}
use Rattle.node_grid.specs.NodeSet.{has_id}
use Rattle.node_grid.specs.SetFacts.{member-lt}
use Rattle.shared_states.specs.Places.{IsAlike}
use Rattle.shared_states.proofs.Views.{Marked, marked_more, marked_same}
use Rattle.shared_states.proofs.places.nodes_alike.Goals.{then-has+then-has_equal, else-has, else-has-via-then-has+else-has_equal, else-has-via-else-has}
use Rattle.shared_states.proofs.places.nodes_alike.Goals as goal

pub loop-node-preserved : goal.loop-node-preserved
loop-node-preserved g c =
    let n = g.row.N in
    let i = c.loop-node.node in
    let nodes = c.args.nodes.now in
    let P : ℕ → Type 0 = IsAlike c.args.states.now nodes c.args.places.now c.args.place in
    let was : Marked n c.loop-node.alike i P = record { so_far = c.loop-node.invariant.alike_are; rest = c.loop-node.invariant.rest } in
    let now : Marked n c.if-has.alike (i + 1) P = elim c.if-has.branch [
      | then-has+then-has_equal w ↦
          subst (λ (s : List ℕ). Marked n s (i + 1) P) (sym (w.alike-is ∙ w.put.ensures))
          (marked_more n c.loop-node.alike i P (omega (arith, c.loop-node-test.true)) was (sym c.has.ensures ∙ w.if-has.true, w.has_equal.ensures.0 w.if-has_equal.true))
      | else-has w ↦
          subst (λ (s : List ℕ). Marked n s (i + 1) P) (sym w.alike-is)
          (marked_same n c.loop-node.alike i P was (elim w.else-has.branch [
            | else-has-via-then-has+else-has_equal v ↦ λ p. let t : false ≡ true = sym v.if-has_equal.false ∙ v.has_equal.ensures.1 p.1 in absurd (cc)
            | else-has-via-else-has v ↦ λ p. let t : false ≡ true = sym v.if-has.false ∙ c.has.ensures ∙ p.0 in absurd (cc)
          ]))
    ]
    in record { alike_are = now.so_far; rest = now.rest }

pub returns : goal.returns
returns g c = λ i. elim (cases_lt i g.row.N) [
  | inl low ↦ c.loop-node.invariant.alike_are i (omega (arith, c.loop-node-test.false))
  | inr high ↦
      let off : has_id c.loop-node.alike i ≡ false = c.loop-node.invariant.rest i (omega (arith, c.loop-node.auto.node-end)) in (
        λ t. absurd (let z : false ≡ true = sym off ∙ t in cc),
        λ p. absurd (omega (arith, member-lt g.row.N c.args.nodes.now i c.requires.ids p.0)),
      )
]
