use Rattle.std.proofs.Common.{sym, ◌∙◌}
use Rattle.told_values.specs.Slot.{slot_of}
use Rattle.told_values.proofs.Arriving.{untouched_to, heard_alike}
use Rattle.told_values.proofs.slot.DataSlot.hears_alike.Goals as goal

pub returns-then-is_untouched : goal.returns-then-is_untouched
returns-then-is_untouched g c = λ yes.
    let d = slot_of g.D.Dues.dues c.args.self.now in
    heard_alike d c.args.i c.args.j (c.is_due_alike.ensures.alike c.if-not-is_due_alike.false)
    (untouched_to d c.args.i (sym c.is_untouched.ensures ∙ c.if-is_untouched.true))
    (untouched_to d c.args.j (sym c.is_untouched-then-is_untouched.ensures ∙ yes))
