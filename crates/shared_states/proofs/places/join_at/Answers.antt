use Rattle.std.proofs.Common.{◌≡◌, ◌<◌, ◌&&◌, ◌==◌, ℕ, List, Bool, true, false, length, sym, ap, subst, ◌∙◌, inl, inr, arith, get_or, eqb-true, if◌then◌else◌}
use Rattle.std.specs.Prelude.{slice_get, slice_index}
use Rattle.std.proofs.lemmas.Bool.{cases_Bool, cond-true, cond-false, and_parts}
use Rattle.node_grid.specs.NodeSet.{has_id, ids_where}
use Rattle.node_grid.specs.NodeSetLaws.{passes_where}
use Rattle.node_grid.specs.SetFacts.{member-lt}
use Rattle.agreed_state.specs.Agreed.{AgreedView}
use Rattle.shared_states.specs.Places.{ArePlaced, LeadAlike}
use Rattle.shared_states.proofs.places.join_at.Goals.{then-has+then-other-place+then-has_equal, else-has}
use Rattle.shared_states.proofs.places.join_at.Goals as goal

pub loop-other-preserved : goal.loop-other-preserved
loop-other-preserved g c =
    let nodes = c.args.nodes.now in
    let states = c.args.states.now in
    let was = c.loop-other.invariant in
    let old : List ℕ = c.loop-other.places in
    let other : ℕ = c.loop-other.other in
    let place : ℕ = c.args.place in
    elim c.if-has.branch [
      | then-has+then-other-place+then-has_equal w ↦
          let new : List ℕ = w.put_at.new.places in
          let moved = w.nodes_at-moved.result in
          let test : ℕ → Bool = λ k. has_id nodes k && (slice_index old k == other) in
          let put : (i : ℕ) → has_id nodes i ≡ true → slice_index new i ≡ (if has_id moved i then place else slice_index old i) =
          λ i on. w.put_at.ensures.put i (member-lt g.row.N nodes i c.len.ensures.ids on) in
          let placed : ArePlaced g.row.N nodes new =
          λ i on. elim (cases_Bool (has_id moved i)) [
            | inl m ↦ subst (λ (k : ℕ). k < g.row.N) (sym (put i on ∙ cond-true (has_id moved i) place (slice_index old i) m)) c.requires.place
            | inr m ↦ subst (λ (k : ℕ). k < g.row.N) (sym (put i on ∙ cond-false (has_id moved i) place (slice_index old i) m)) (was.placed i on)
          ] in
          let alike : LeadAlike states nodes c.args.places.now new =
          λ i on. elim (cases_Bool (has_id moved i)) [
            | inl m ↦
                let at : slice_index old i ≡ other = eqb-true (slice_index old i) other (and_parts (has_id nodes i) _ (passes_where test g.row.N i (sym (ap (λ (s : List ℕ). has_id s i) w.nodes_at-moved.ensures) ∙ m))).1 in
                ap (slice_get states) (put i on ∙ cond-true (has_id moved i) place (slice_index old i) m)
                ∙ sym (w.has_equal.ensures.0 w.if-has_equal.true) ∙ ap (slice_get states) (sym at) ∙ was.alike i on
            | inr m ↦ ap (slice_get states) (put i on ∙ cond-false (has_id moved i) place (slice_index old i) m) ∙ was.alike i on
          ] in
          record {
            wide = ap length w.places-is ∙ w.put_at.ensures.long;
            placed = subst (λ (ps : List ℕ). ArePlaced g.row.N nodes ps) (sym w.places-is) placed;
            alike = subst (λ (ps : List ℕ). LeadAlike states nodes c.args.places.now ps) (sym w.places-is) alike;
          }
      | else-has w ↦ record {
        wide = ap length w.places-is ∙ was.wide;
        placed = subst (λ (ps : List ℕ). ArePlaced g.row.N nodes ps) (sym w.places-is) was.placed;
        alike = subst (λ (ps : List ℕ). LeadAlike states nodes c.args.places.now ps) (sym w.places-is) was.alike;
      }
    ]
