use Rattle.std.proofs.Common.{List, ℕ, length, ap, arith}
use Rattle.told_values.specs.Slot.{slot_of}
use Rattle.told_values.proofs.Sending.{due_few}
use Rattle.told_values.proofs.link.Link.expect.Goals as goal

pub overflow_cast-due : goal.overflow_cast-due
overflow_cast-due g c =
    let few = due_few (slot_of g.D.Dues.dues c.args.self.now.slot.now) c.due-due.ensures.slot c.args.self.now.to c.args.self.now.receiver in
    let same = ap (λ (ds : List ℕ). length ds) c.due-due.ensures.due in
    omega (arith, few, same)
