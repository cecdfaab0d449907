use Rattle.std.proofs.Common.{ℕ, ◌≡◌, List, true, Some, None, sym, ap, subst, ◌∙◌, inl, inr, arith}
use Rattle.std.proofs.lemmas.Bool.{cases_lt, cond-true}
use Rattle.node_grid.specs.NodeSet.{has_id}
use Rattle.node_grid.specs.SetFacts.{has_below, below_of}
use Rattle.heard_links.specs.Hearing.{item_of, is_even, talk_in}
use Rattle.heard_links.proofs.Runs.{even_kind}
use Rattle.item_phase.proofs.Marking.{in_minus, taken_out}
use Rattle.item_phase.proofs.item_phase.ItemPhase.ill.Goals as goal

pub returns-clause-used : goal.returns-clause-used
returns-clause-used g c = λ j on.
    let all : List ℕ = c.full-all.result in
    let nodes : ℕ = c.args.phase.now.config.now.nodes in
    below_of nodes j (ap (λ (s : List ℕ). has_id s j) (sym c.full-all.ensures) ∙ (in_minus all c.minus-well.result j (ap (λ (s : List ℕ). has_id s j) (sym c.minus.ensures) ∙ on)).0)

pub returns-clause-well : goal.returns-clause-well
returns-clause-well g c = λ r j i few low off on ne.
    let a = c.args in
    let x = a.phase.now in
    let h = c.requires.heard in
    let t = talk_in g.V.Item.form x a.self.now.links in
    let is_well : has_id c.minus-well.result j ≡ true =
    taken_out c.full-all.result c.minus-well.result j (ap (λ (s : List ℕ). has_id s j) (sym c.minus.ensures) ∙ off)
    (ap (λ (s : List ℕ). has_id s j) c.full-all.ensures ∙ has_below x.config.now.nodes j low) in
    let steady = in_minus c.minus-told.result a.odd.now j (ap (λ (s : List ℕ). has_id s j) (sym c.minus-well.ensures) ∙ is_well) in
    let full = in_minus x.full c.touched-untold.result j (ap (λ (s : List ℕ). has_id s j) (sym c.minus-told.ensures) ∙ steady.0) in
    let even : is_even t r j i ≡ true = elim (cases_lt 0 r) [
      | inl some ↦ c.requires.odd r j i some few steady.1 low on ne
      | inr none ↦ subst (λ (k : ℕ). is_even t k j i ≡ true) (let e : 0 ≡ r = omega (arith, none) in e) (c.touched-untold.ensures j i full.1 low on ne)
    ] in
    even_kind g.V.Item.form g.V.Item.first_slot g.V.Item.tells g.V.Item.entry_form g.V.Item.in_range g.met.V.Item.made_of g.met.V.Item.fits x (item_of a.self.now.links) h.set h.sys h.run
    r j i few low (h.set.awake i on) even
    ∙ cond-true (has_id x.full j) None (Some 3) full.0
