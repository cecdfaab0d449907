use Rattle.std.proofs.Common.{Some, pos, get_or, ap, ◌∙◌, rules}
use Rattle.json_parts.specs.Reading.{whole}
use Rattle.scenario_writing.proofs.Grown.{next, all, as_they_are}
use Rattle.scenario_writing.proofs.Members.{kept}
use Rattle.scenario_writing.proofs.lists.numbers.Goals as goal

pub loop-n-preserved : goal.loop-n-preserved
loop-n-preserved c =
    next whole (λ z. z) c.args.numbers.now c.loop-n.n-index (pos 0) c.number.result c.loop-n.values.items c.push.new.self.items
    c.loop-n-test.true (kept (get_or c.args.numbers.now c.loop-n.n-index (pos 0)) (search rules) c.number.ensures) c.in_ok-push.ensures.items c.loop-n.invariant

pub returns : goal.returns
returns c = all whole (λ z. z) c.args.numbers.now c.loop-n.n-index c.loop-n.values c.loop-n-test.false c.loop-n.invariant ∙ ap Some (as_they_are c.args.numbers.now)
