use Rattle.std.proofs.Common.{◌≡◌, ◌==◌, ◌||◌, ℕ, List, true, false, length, get_or, sym, ap, subst, ◌∙◌, inl, inr, arith, eq-eqb}
use Rattle.std.proofs.lemmas.Bool.{cases_eq, or_left, or_right}
use Rattle.node_grid.specs.NodeSet.{has_id, with_id, ids_below, IsIdSet}
use Rattle.node_grid.specs.NodeSetLaws.{IsIdSet-filter, count-below, has-with_id}
use Rattle.node_grid.specs.Count.{bit, count}
use Rattle.node_grid.specs.SetFacts.{member-lt}
use Rattle.shared_states.proofs.Free.{grown, length_set}
use Rattle.shared_states.proofs.places.places_of.Goals.{then-has, else-has}
use Rattle.shared_states.proofs.places.places_of.Goals as goal

pub loop-node-preserved : goal.loop-node-preserved
loop-node-preserved g c =
    let n = g.row.N in
    let i = c.loop-node.node in
    let nodes = c.args.nodes.now in
    let places = c.args.places.now in
    let was = c.loop-node.invariant in
    let more = count-below (has_id nodes) i in
    elim c.if-has.branch [
      | then-has w ↦
          let x = get_or places i 0 in
          let found = c.loop-node.found in
          let is : c.if-has.found ≡ with_id n found x = w.found-is ∙ w.put.ensures in
          let on : has_id nodes i ≡ true = sym c.has.ensures ∙ w.if-has.true in
          let one : bit (has_id nodes i) ≡ 1 = ap bit on in
          record {
            ids = subst (λ (s : List ℕ). IsIdSet n s) (sym is) (IsIdSet-filter (λ k. (k == x) || has_id found k) n);
            few = omega (arith, ap length is, grown n found x was.ids, was.few, more, one);
            there = λ k within up.
                ap (λ (s : List ℕ). has_id s (get_or places k 0)) is ∙ has-with_id n found x (get_or places k 0) (c.requires.placed k up)
                ∙ elim (cases_eq k i) [
                  | inl same ↦ or_left _ _ (eq-eqb (get_or places k 0) x (ap (λ q. get_or places q 0) same))
                  | inr other ↦ or_right _ _ (was.there k (omega arith) up)
                ];
          }
      | else-has w ↦
          let off : has_id nodes i ≡ false = sym c.has.ensures ∙ w.if-has.false in
          record {
            ids = subst (λ (s : List ℕ). IsIdSet n s) (sym w.found-is) was.ids;
            few = omega (arith, ap length w.found-is, was.few, more);
            there = λ k within up.
                ap (λ (s : List ℕ). has_id s (get_or places k 0)) w.found-is
                ∙ was.there k (elim (cases_eq k i) [
                  | inl same ↦ absurd (let t : false ≡ true = sym off ∙ ap (has_id nodes) (sym same) ∙ up in cc)
                  | inr other ↦ omega arith
                ]) up;
          }
    ]

pub returns-clause-places : goal.returns-clause-places
returns-clause-places g c = λ i up. c.loop-node.invariant.there i (omega (arith, member-lt g.row.N c.args.nodes.now i c.requires.ids up, c.loop-node-test.false)) up

pub returns-clause-few : goal.returns-clause-few
returns-clause-few g c =
    let end : c.loop-node.node ≡ g.row.N = omega (arith, c.loop-node-test.false, c.loop-node.auto.node-end) in
    omega (arith, c.loop-node.invariant.few, ap (λ k. count (has_id c.args.nodes.now) (ids_below k)) end, length_set g.row.N c.args.nodes.now c.requires.ids)
