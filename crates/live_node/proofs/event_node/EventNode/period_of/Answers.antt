use Rattle.std.proofs.Common.{◌≡◌, ℕ, sym, ap, ◌∙◌, arith}
use Rattle.std.specs.Prelude.{Option, unwrap_or}
use Rattle.live_node.specs.Live.{LiveView}
use Rattle.live_node.proofs.Held.{begins_later, begins_next}
use Rattle.live_node.proofs.event_node.EventNode.period_of.Goals as goal

pub overflow_cast-result : goal.overflow_cast-result
overflow_cast-result g c =
    let v : LiveView g.row.N = record { scenario = c.self.inside.scenario.now; id = c.self.inside.id; node = c.self.inside.node; next = c.self.inside.next; run = c.self.inside.run; forgot = c.self.inside.forgot; given = c.self.inside.told.given; ahead = c.self.inside.told.ahead; longest = c.self.inside.longest } in
    let same : v ≡ c.args.self.now = c.self.view_is in
    let low = begins_next c.args.self.now c.args.named c.requires.may c.in-None.is in
    let next : v.next ≡ c.args.self.now.next = ap (λ (x : LiveView g.row.N). x.next) same in
    omega (arith, low, next)

pub returns-in-Some-clause-period : goal.returns-in-Some-clause-period
returns-in-Some-clause-period g c =
    ap (λ (o : Option ℕ). unwrap_or o c.args.self.now.next) (sym c.in-Some.is)

pub returns-in-Some-clause-later : goal.returns-in-Some-clause-later
returns-in-Some-clause-later g c =
    begins_later c.args.self.now c.args.named c.requires.may c.in-Some.period c.in-Some.is

pub returns-in-None-clause-period : goal.returns-in-None-clause-period
returns-in-None-clause-period g c =
    ap (λ (x : LiveView g.row.N). x.next) c.self.view_is ∙ ap (λ (o : Option ℕ). unwrap_or o c.args.self.now.next) (sym c.in-None.is)

pub returns-in-None-clause-later : goal.returns-in-None-clause-later
returns-in-None-clause-later g c =
    let next = ap (λ (x : LiveView g.row.N). x.next) c.self.view_is in omega (arith, next)
