use Rattle.std.proofs.Common.{ℕ, ◌+◌, ◌*◌, length, sym, ap, subst, ◌∙◌}
use Rattle.touched_items.specs.Overlaid.{IsClear}
use Rattle.touched_items.proofs.Overlays.{overlaid-clear}
use Rattle.touched_items.proofs.relay.patched_entry.Goals as goal

pub returns-then-is_clear_of : goal.returns-then-is_clear_of
returns-then-is_clear_of g c = λ some long back.
    let width : ℕ = g.V.Item.entry_form.width c.args.nodes in
    let own = g.V.Item.entry_form.spelling c.args.nodes c.args.own in
    let at : ℕ = c.args.patch.now.at in
    let count : ℕ = length c.args.patch.now.bytes.now in
    let clear : IsClear at count (14 + width * c.args.k) width = subst (λ (w : ℕ). IsClear at count (14 + w * c.args.k) w) c.entry_width-width.ensures (c.is_clear_of.ensures c.if-is_clear_of.true) in
    sym (ap (g.V.Item.entry_form.read g.row.N c.args.nodes)
    (overlaid-clear at c.args.patch.now.bytes.now (14 + width * c.args.k) own (subst (λ (n : ℕ). IsClear at count (14 + width * c.args.k) n) (sym long) clear)) ∙ back)
