use Rattle.std.proofs.Common.{ℕ, ◌≡◌, true, List, length, sym, ap, ◌∙◌}
use Rattle.node_grid.specs.NodeSet.{has_id}
use Rattle.told_values.specs.Slot.{slot_of}
use Rattle.told_values.proofs.Arriving.{untouched_to, heard_well}
use Rattle.told_values.proofs.listener.Listener.hears_all.Goals as goal

pub returns-then-are_due_alike : goal.returns-then-are_due_alike
returns-then-are_due_alike g c = λ yes x hears j low ne.
    let d = slot_of g.D.Dues.dues c.args.self.now.slot.now in
    let full : has_id d.full j ≡ true = c.are_full.ensures c.if-not-are_full.false j low in
    heard_well d c.args.self.now.node x hears (untouched_to d c.args.self.now.node (sym c.is_untouched.ensures ∙ yes)) j low ne full
    (ap (λ (ds : List ℕ). length ds) (c.are_due_alike.ensures c.if-are_due_alike.true j full))
