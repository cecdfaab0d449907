use Rattle.std.proofs.Common.{ℕ, ◌≡◌, ◌*◌, length, ap₂, arith}
use Rattle.frames.specs.Content.{Expectation}
use Rattle.frames.specs.Seen.{expected}
use Rattle.touched_items.proofs.Cells.{sent_short}
use Rattle.touched_items.proofs.relay.patched_kind.Goals as goal

pub overflow_mul-size : goal.overflow_mul-size
overflow_mul-size g c =
    let e : Expectation = expected c.args.expect.now in
    let es = g.E.Entries.entries c.args.entries.now in
    let is : c.entry_width.result * c.len.result ≡ g.V.Item.entry_form.width e.nodes * length es = ap₂ (λ (a b : ℕ). a * b) c.entry_width.ensures c.len.ensures in
    let short = sent_short g.V.Item.form g.V.Item.entry_form g.V.Item.in_range g.met.V.Item.made_of e es c.requires.sent in
    record { fits = omega (arith, is, short) }

pub overflow_cast-size : goal.overflow_cast-size
overflow_cast-size g c =
    let e : Expectation = expected c.args.expect.now in
    let es = g.E.Entries.entries c.args.entries.now in
    let is : c.entry_width.result * c.len.result ≡ g.V.Item.entry_form.width e.nodes * length es = ap₂ (λ (a b : ℕ). a * b) c.entry_width.ensures c.len.ensures in
    let short = sent_short g.V.Item.form g.V.Item.entry_form g.V.Item.in_range g.met.V.Item.made_of e es c.requires.sent in
    record { fits = omega (arith, is, short) }
