use Rattle.std.proofs.Common.{ℕ, ◌≡◌, true, List, [], sym, ap, ◌∙◌, inl, inr}
use Rattle.std.proofs.lemmas.Bool.{cases_eq}
use Rattle.node_grid.specs.NodeSet.{has_id}
use Rattle.shared_states.specs.declared.belief.Belief.{Belief}
use Rattle.at_once.specs.Values.{due_at}
use Rattle.at_once.proofs.Alike.{had_before}
use Rattle.at_once.proofs.dues.GroupBeliefs.alike.Goals.{then-is_alike, else-is_alike}
use Rattle.at_once.proofs.dues.GroupBeliefs.alike.Goals as goal

pub loop-i-init : goal.loop-i-init
loop-i-init g c = λ j on. let clash : has_id [] j ≡ true = ap (λ (s : List ℕ). has_id s j) (sym c.empty-alike.ensures) ∙ on in absurd (cc)

pub loop-i-preserved : goal.loop-i-preserved
loop-i-preserved g c =
    let shared : List ℕ × List (Belief g.row.N) = (c.args.self.now.groups.now, c.args.self.now.beliefs.now) in
    let i : ℕ = c.loop-i.i in
    let alike : List ℕ = c.loop-i.alike in
    elim c.if-is_alike.branch [
      | then-is_alike w ↦ λ j on. elim (cases_eq j i) [
        | inl e ↦ ap (λ (m : ℕ). due_at shared m) e ∙ c.is_alike.ensures w.if-is_alike.true
        | inr ne ↦ c.loop-i.invariant j (had_before g.row.N alike i j (ap (λ (s : List ℕ). has_id s j) (sym (w.alike-is ∙ w.put.ensures)) ∙ on) ne)
      ]
      | else-is_alike w ↦ λ j on. c.loop-i.invariant j (ap (λ (s : List ℕ). has_id s j) (sym w.alike-is) ∙ on)
    ]

pub returns : goal.returns
returns g c = λ i j on_i on_j. c.loop-i.invariant i on_i ∙ sym (c.loop-i.invariant j on_j)
