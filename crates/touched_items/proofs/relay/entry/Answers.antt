use Rattle.std.proofs.Common.{ℕ, ◌≡◌, ◌≤◌, ◌+◌, ◌*◌, List, length, take, drop, Some, sym, ap, subst, ◌∙◌}
use Rattle.frames.specs.Content.{Expectation}
use Rattle.frames.specs.Seen.{expected}
use Rattle.fault_classes.specs.Change.{change_of}
use Rattle.fault_classes.specs.Change.Change.{Raw}
use Rattle.protocol.specs.Arrival.Arrival.{Good}
use Rattle.protocol.specs.Talk.{arrives}
use Rattle.touched_frames.proofs.Effects.{not_raw}
use Rattle.touched_items.proofs.Coming.{raw_entry, entry_is}
use Rattle.touched_items.proofs.relay.entry.Goals as goal

pub returns-in-Raw : goal.returns-in-Raw
returns-in-Raw g c = λ said xs own good low.
    let e : Expectation = expected c.args.expect.now in
    let width : ℕ = g.V.Item.entry_form.width e.nodes in
    let bytes : List ℕ = c.in-Raw.bytes.items in
    let came : arrives g.V.Item.form.relay_in (Some (Raw bytes)) e e said ≡ Good xs = sym (ap (λ f. arrives g.V.Item.form.relay_in (Some (change_of f)) e e said) c.in-Raw.is) ∙ good in
    let r = raw_entry g.V.Item.form g.V.Item.entry_form g.V.Item.in_range g.met.V.Item.made_of e bytes said xs c.args.k came low in
    let same = c.as_slice.ensures.value in
    c.entry_in.ensures (subst (λ (bs : List ℕ). 14 + width * c.args.k + width ≤ length bs) (sym same) r.0)
    ∙ ap (λ (bs : List ℕ). g.V.Item.entry_form.read g.row.N e.nodes (take width (drop (14 + width * c.args.k) bs))) same
    ∙ sym r.1

pub returns : goal.returns
returns g c = λ said xs own good low.
    let e : Expectation = expected c.args.expect.now in
    entry_is g.V.Item.form g.V.Item.entry_form g.V.Item.in_range g.met.V.Item.made_of e (change_of c.args.effect.now) c.of.result.at c.of.result.bytes.now c.args.k c.args.own c.patched_entry.result
    c.requires.nodes c.requires.rounds c.of.result.small (not_raw c.args.effect.now c.in_default.not-Raw) c.of.ensures c.patched_entry.ensures said xs own good low
