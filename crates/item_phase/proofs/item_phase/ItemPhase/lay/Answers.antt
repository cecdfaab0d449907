use Rattle.std.proofs.Common.{ℕ, ◌<◌, ◌+◌, ◌*◌, List, [], length, sym, ap, ◌∙◌, inl, inr, arith, get_or, set, get_or-set_same, get_or-set_other}
use Rattle.std.proofs.lemmas.Bool.{cases_eq}
use Rattle.std.proofs.lemmas.List.{get_or_default}
use Rattle.node_grid.specs.NodeSet.{has_id, with_id}
use Rattle.node_grid.specs.SetFacts.{not_rest}
use Rattle.omh_paths.specs.declared.wrapped.Wrapped.TheVariants.{Fault}
use Rattle.item_phase.proofs.Marking.{marked_in, kept_in, kept_out}
use Rattle.item_phase.proofs.Standing.{place_low}
use Rattle.item_phase.proofs.item_phase.ItemPhase.lay.Goals as goal
use Rattle.item_phase.proofs.item_phase.ItemPhase.lay.Goals.{then-convicts, else-convicts}

pub returns-clause-settled : goal.returns-clause-settled
returns-clause-settled g c =
    let a = c.args in
    let low = place_low g.row.N a.commander a.me c.requires.member c.requires.node in
    get_or-set_same a.self.now.each.items (a.commander * g.row.N + a.me) a.settled (Fault 0) (omega (arith, low, a.self.now.each_room))

pub returns-clause-convicted : goal.returns-clause-convicted
returns-clause-convicted g c =
    let a = c.args in
    let sets = a.self.now.convicting in
    let s = get_or sets a.commander c.index-self-commander.result in
    let room : a.commander < length sets = omega (arith, c.requires.member) in
    ap (λ (ids : List ℕ). has_id ids a.me) (get_or-set_same sets a.commander c.if-convicts.others [] room)
    ∙ elim c.if-convicts.branch [
      | then-convicts w ↦
          ap (λ (ids : List ℕ). has_id ids a.me) (w.others-is ∙ w.put.ensures ∙ ap (λ (ids : List ℕ). with_id g.row.N ids a.me) c.without-others.ensures)
          ∙ marked_in g.row.N s a.me c.requires.node ∙ sym w.if-convicts.true
      | else-convicts w ↦ ap (λ (ids : List ℕ). has_id ids a.me) (w.others-is ∙ c.without-others.ensures) ∙ not_rest s a.me ∙ sym w.if-convicts.false
    ]

pub returns-clause-convicting : goal.returns-clause-convicting
returns-clause-convicting g c = λ i k low apart.
    let a = c.args in
    let sets = a.self.now.convicting in
    let s = get_or sets a.commander c.index-self-commander.result in
    let more = c.if-convicts.others in
    let room : a.commander < length sets = omega (arith, c.requires.member) in
    elim (cases_eq k a.commander) [
      | inl e ↦ elim apart [
        | inl ne ↦ absurd (ne e)
        | inr ne ↦
            ap (λ (j : ℕ). has_id (get_or (set sets a.commander more) j []) i) e
            ∙ ap (λ (ids : List ℕ). has_id ids i) (get_or-set_same sets a.commander more [] room)
            ∙ elim c.if-convicts.branch [
              | then-convicts w ↦
                  ap (λ (ids : List ℕ). has_id ids i) (w.others-is ∙ w.put.ensures ∙ ap (λ (ids : List ℕ). with_id g.row.N ids a.me) c.without-others.ensures)
                  ∙ kept_in g.row.N s a.me i low ne
              | else-convicts w ↦ ap (λ (ids : List ℕ). has_id ids i) (w.others-is ∙ c.without-others.ensures) ∙ kept_out s a.me i ne
            ]
            ∙ ap (λ (ids : List ℕ). has_id ids i) (get_or_default sets a.commander c.index-self-commander.result [] room)
            ∙ ap (λ (j : ℕ). has_id (get_or sets j []) i) (sym e)
      ]
      | inr ne ↦ ap (λ (ids : List ℕ). has_id ids i) (get_or-set_other sets a.commander k more [] ne)
    ]
