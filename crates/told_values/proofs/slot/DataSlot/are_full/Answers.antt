use Rattle.std.proofs.Common.{ℕ, ◌≡◌, ◌<◌, true, not, List, sym, ap, subst, ◌∙◌}
use Rattle.node_grid.specs.NodeSet.{has_id, minus_of}
use Rattle.node_grid.specs.NodeSetLaws.{has-filter}
use Rattle.node_grid.specs.TruthFacts.{not_false}
use Rattle.told_values.specs.Slot.{SlotParts}
use Rattle.told_values.proofs.slot.DataSlot.are_full.Goals as goal

pub returns : goal.returns
returns g c = λ yes j low.
    let n = c.self.inside in
    let full : List ℕ = n.full in
    let used : j < n.config.now.nodes = subst (λ (v : SlotParts _ g.row.N). j < v.config.nodes) (sym c.self.view_is) low in
    subst (λ (v : SlotParts _ g.row.N). has_id v.full j ≡ true) c.self.view_is (not_false (has_id full j)
    (sym (has-filter (λ k. not (has_id full k)) n.config.now.nodes j used)
    ∙ ap (λ (s : List ℕ). has_id s j) (sym (ap (λ (s : List ℕ). minus_of s full) c.full-all.ensures) ∙ sym c.minus.ensures ∙ c.is_empty.ensures.0 yes)))
