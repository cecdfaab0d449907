use Rattle.std.proofs.Common.{sym, ◌∙◌}
use Rattle.told_values.specs.Slot.{slot_of}
use Rattle.told_values.proofs.Arriving.{untouched_of}
use Rattle.told_values.proofs.listener.Listener.may_touch.Goals as goal

pub returns-then-from-self-clause-untouched : goal.returns-then-from-self-clause-untouched
returns-then-from-self-clause-untouched g c = λ off used other.
    untouched_of (slot_of g.D.Dues.dues c.args.self.now.slot.now) c.is_touched.ensures.slot c.args.from c.args.self.now.node used c.args.self.now.in_use other (sym c.is_touched.ensures.touched ∙ off)
