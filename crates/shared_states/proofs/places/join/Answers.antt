use Rattle.std.proofs.Common.{ℕ, List, length, ap, subst, sym, ◌∙◌}
use Rattle.std.specs.Prelude.{slice_get, slice_index}
use Rattle.shared_states.specs.Places.{ArePlaced}
use Rattle.shared_states.proofs.places.join.Goals.{then-has+then-not-has, else-has}
use Rattle.shared_states.proofs.places.join.Goals as goal

pub loop-node-preserved : goal.loop-node-preserved
loop-node-preserved g c =
    let nodes = c.args.nodes.now in
    let states = c.args.states.now in
    let was = c.loop-node.invariant in
    elim c.if-has.branch [
      | then-has+then-not-has w ↦ record {
        wide = ap length w.places-is ∙ w.join_at.ensures.long;
        placed = subst (λ (ps : List ℕ). ArePlaced g.row.N nodes ps) (sym w.places-is) w.join_at.ensures.placed;
        alike = λ i up. ap (λ (ps : List ℕ). slice_get states (slice_index ps i)) w.places-is ∙ w.join_at.ensures.alike i up ∙ was.alike i up;
      }
      | else-has w ↦ record {
        wide = ap length w.places-is ∙ was.wide;
        placed = subst (λ (ps : List ℕ). ArePlaced g.row.N nodes ps) (sym w.places-is) was.placed;
        alike = λ i up. ap (λ (ps : List ℕ). slice_get states (slice_index ps i)) w.places-is ∙ was.alike i up;
      }
    ]
