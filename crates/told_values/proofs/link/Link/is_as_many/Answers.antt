use Rattle.std.proofs.Common.{ℕ, List, length, sym, ap, eq-eqb}
use Rattle.told_values.specs.Slot.{slot_of}
use Rattle.told_values.proofs.link.Link.is_as_many.Goals as goal

pub returns-then-is_due_alike : goal.returns-then-is_due_alike
returns-then-is_due_alike g c =
    let d = slot_of g.D.Dues.dues c.args.self.now.slot.now in
    sym (eq-eqb (length (d.due c.args.self.now.from)) (length (d.due c.args.self.now.to)) (ap (λ (ds : List ℕ). length ds) (c.is_due_alike.ensures.alike c.if-is_due_alike.true)))
