use Rattle.std.proofs.Common.{ℕ, Option, sym, ap, ◌∙◌}
use Rattle.error_reports.specs.Notes.{is_kind}
use Rattle.told_values.specs.Slot.{slot_of}
use Rattle.told_values.proofs.Arriving.{kind_is}
use Rattle.told_values.proofs.link.Link.kind.Goals as goal

pub returns-in-None : goal.returns-in-None
returns-in-None g c = λ x hears k.
    ap (λ (o : Option ℕ). is_kind o k) c.untouched_kind.ensures
    ∙ kind_is (slot_of g.D.Dues.dues c.args.self.now.slot.now) c.args.self.now.from c.args.self.now.to x hears c.args.self.now.sender c.args.self.now.apart (sym c.in-None.ensures) k
