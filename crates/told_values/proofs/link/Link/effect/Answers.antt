use Rattle.std.proofs.Common.{sym, ◌∙◌}
use Rattle.told_values.specs.Slot.{slot_of}
use Rattle.told_values.proofs.Arriving.{untouched_of, effect_by}
use Rattle.told_values.proofs.link.Link.effect.Goals as goal

pub returns-then-not-is_touched : goal.returns-then-not-is_touched
returns-then-not-is_touched g c =
    sym (untouched_of (slot_of g.D.Dues.dues c.args.self.now.slot.now) c.is_touched.ensures.slot c.args.self.now.from c.args.self.now.to c.args.self.now.sender c.args.self.now.receiver c.args.self.now.apart
    (sym c.is_touched.ensures.touched ∙ c.if-not-is_touched.true))

pub returns : goal.returns
returns g c = c.effect.ensures ∙ effect_by c.args.self.now.from c.args.self.now.to c.talk-talk.ensures.plan c.talk-talk.ensures.period c.talk-talk.ensures.slot
