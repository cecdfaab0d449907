use Rattle.std.proofs.Common.{ℕ, ◌<◌, ◌≤◌, ◌+◌, ◌*◌, ◌⊎◌, List, length, sym, ap, subst, ◌∙◌, arith, inl, inr, lit<}
use Rattle.std.proofs.lemmas.Bool.{cases_lt}
use Rattle.frames.specs.Content.{Expectation, round_in}
use Rattle.frames.specs.Seen.{expected}
use Rattle.touched_items.specs.Items.{sizes_of}
use Rattle.touched_items.specs.Overlaid.{IsClear}
use Rattle.touched_items.specs.Patched.{cell_over}
use Rattle.touched_items.proofs.Coming.{clear_pass, all_due, one_undue, spelt_entry}
use Rattle.touched_items.proofs.relay.are_due.Goals as goal

pub hit_entries-first-requires-clause-width : goal.hit_entries-first-requires-clause-width
hit_entries-first-requires-clause-width g c =
    let e : Expectation = expected c.args.expect.now in
    subst (λ (w : ℕ). 0 < w) (sym c.entry_width.ensures) (g.met.V.Item.made_of.format (sizes_of e) (round_in e.m e.slot)).wide

pub is_cell-requires : goal.is_cell-requires
is_cell-requires g c =
    let e : Expectation = expected c.args.expect.now in
    let es = g.E.Entries.entries c.args.entries.now in
    let low : c.loop-k.k < length es = omega (arith, c.loop-k-test.true, c.hit_entries-first.ensures.within, c.len-2.ensures) in
    let few : c.loop-k.k < 4096 = omega (arith, low, c.len.ensures, c.if-len-entries_due.false, c.entries_due.ensures.few) in
    let f = spelt_entry g.V.Item.form g.V.Item.entry_form g.V.Item.in_range g.met.V.Item.made_of e es c.loop-k.k c.requires.sent low in
    (lit< tt, (c.requires.nodes, (few, (λ none. f.0 (sym c.at.ensures ∙ none), ap (λ own. length (g.V.Item.entry_form.spelling e.nodes own)) c.at.ensures ∙ f.1))))

pub returns-then-not-is_cell : goal.returns-then-not-is_cell
returns-then-not-is_cell g c =
    let e : Expectation = expected c.args.expect.now in
    let es = g.E.Entries.entries c.args.entries.now in
    let low : c.loop-k.k < length es = omega (arith, c.loop-k-test.true, c.hit_entries-first.ensures.within, c.len-2.ensures) in
    sym (one_undue g.V.Item.form g.V.Item.entry_form g.V.Item.in_range g.met.V.Item.made_of e c.args.patch.now.at c.args.patch.now.bytes.now es c.loop-k.k low
    (ap (λ own. g.V.Item.entry_form.test (sizes_of e) (round_in e.m e.slot) (cell_over g.V.Item.entry_form e.nodes c.args.patch.now.at c.args.patch.now.bytes.now c.loop-k.k own)) (sym c.at.ensures)
    ∙ sym c.is_cell.ensures ∙ c.if-not-is_cell.true))

pub returns : goal.returns
returns g c =
    let e : Expectation = expected c.args.expect.now in
    let es = g.E.Entries.entries c.args.entries.now in
    let at : ℕ = c.args.patch.now.at in
    let bytes : List ℕ = c.args.patch.now.bytes.now in
    let width : ℕ = g.V.Item.entry_form.width e.nodes in
    let clear : (k : ℕ) → k < length es → (k < c.hit_entries-first.result.0) ⊎ (c.hit_entries-first.result.1 ≤ k) → IsClear at (length bytes) (14 + width * k) width =
    λ k low away. subst (λ (w : ℕ). IsClear at (length bytes) (14 + w * k) w) c.entry_width.ensures (c.hit_entries-first.ensures.clear k (omega (arith, low, c.len-2.ensures)) away) in
    let pass = clear_pass g.V.Item.form g.V.Item.entry_form g.V.Item.in_range g.met.V.Item.made_of e at bytes es in
    sym (all_due g.V.Item.form g.V.Item.entry_form g.V.Item.in_range g.met.V.Item.made_of e at bytes es (sym c.len.ensures ∙ c.if-len-entries_due.false ∙ c.entries_due.ensures.number) (λ k low.
    elim (cases_lt k c.hit_entries-first.result.0) [
      | inl before ↦ pass k c.requires.nodes c.requires.sent low (clear k low (inl before))
      | inr after ↦ elim (cases_lt k c.loop-k.k) [
        | inl done ↦ c.loop-k.invariant k after done
        | inr rest ↦ pass k c.requires.nodes c.requires.sent low (clear k low (inr (omega (arith, rest, c.loop-k-test.false))))
      ]
    ]))
