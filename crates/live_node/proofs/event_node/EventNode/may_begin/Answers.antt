use Rattle.std.proofs.Common.{ap}
use Rattle.live_node.specs.Live.{LiveView}
use Rattle.live_node.proofs.Deciding.{begin_next, begin_later, begin_never}
use Rattle.live_node.proofs.event_node.EventNode.may_begin.Goals as goal

pub returns-then-period-self : goal.returns-then-period-self
returns-then-period-self g c =
    begin_next c.args.self.now c.args.named c.in-Some.period c.from-period.result c.self.inside.next c.self.inside.forgot c.in-Some.is c.from-period.ensures (ap (λ (v : LiveView g.row.N). v.next) c.self.view_is)
    (ap (λ (v : LiveView g.row.N). v.forgot) c.self.view_is) c.if-period-self.true

pub returns-then-self : goal.returns-then-self
returns-then-self g c =
    begin_later c.args.self.now c.args.named c.in-Some.period c.from-period.result c.self.inside.next c.self.inside.forgot c.in-Some.is c.from-period.ensures (ap (λ (v : LiveView g.row.N). v.next) c.self.view_is)
    (ap (λ (v : LiveView g.row.N). v.forgot) c.self.view_is) c.if-period-self.false c.if-self.true

pub returns-else-self : goal.returns-else-self
returns-else-self g c =
    begin_never c.args.self.now c.args.named c.in-Some.period c.from-period.result c.self.inside.next c.self.inside.forgot c.in-Some.is c.from-period.ensures (ap (λ (v : LiveView g.row.N). v.next) c.self.view_is)
    (ap (λ (v : LiveView g.row.N). v.forgot) c.self.view_is) c.if-period-self.false c.if-self.false
