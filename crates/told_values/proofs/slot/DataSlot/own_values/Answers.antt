use Rattle.std.proofs.Common.{ℕ, ℤ, ◌≡◌, ◌<◌, true, List, Option, sym, ap, ◌∙◌, Some, None}
use Rattle.std.proofs.lemmas.Bool.{cond-true}
use Rattle.node_grid.specs.NodeSet.{has_id}
use Rattle.protocol.specs.View.{own_in}
use Rattle.told_values.specs.Slot.{slot_of, own_of}
use Rattle.told_values.proofs.Sending.{due_below}
use Rattle.told_values.proofs.slot.DataSlot.own_values.Goals as goal

pub returns-then-is_full : goal.returns-then-is_full
returns-then-is_full g c = λ k on.
    let d = slot_of g.D.Dues.dues c.args.self.now in
    let i : ℕ = c.args.i in
    let full : has_id d.full i ≡ true = sym c.is_full.ensures ∙ c.if-is_full.true in
    let low : k < 8 = due_below d c.own.ensures.slot i c.requires k (on full) in
    ap Some (c.own_by_channel.ensures k low ∙ ap (λ (own : List (Option ℤ)). own_in own k) c.own.ensures.own)
    ∙ sym (cond-true (has_id d.full i) (Some (own_in (own_of d i) k)) None full)
