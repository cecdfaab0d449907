use Rattle.std.proofs.Common.{◌≡◌, ◌<◌, ◌+◌, ◌^◌, ap, ◌∙◌, arith, inl, inr, lit<}
use Rattle.std.specs.Prelude.{vec_capacity}
use Rattle.live_node.specs.Live.{LiveView, is_open}
use Rattle.live_node.specs.Standing.{IsHeld}
use Rattle.live_node.proofs.Held.{held_begun, begun_is}
use Rattle.live_node.proofs.event_node.EventNode.begin.Goals as goal

pub inputs-inputs-requires : goal.inputs-inputs-requires
inputs-inputs-requires g c =
    elim g.bound-1.eight_or_sixteen [ inl e ↦ rw e (lit< tt) | inr e ↦ rw e (lit< tt) ]

pub begin-requires : goal.begin-requires
begin-requires g c =
    let v : LiveView g.row.N = record { scenario = c.self.inside.scenario.now; id = c.self.inside.id; node = c.self.inside.node; next = c.self.inside.next; run = c.self.inside.run; forgot = c.self.inside.forgot; given = c.self.inside.told.given; ahead = c.self.inside.told.ahead; longest = c.self.inside.longest } in
    let same : v ≡ c.args.self.now = c.self.view_is in
    (elim g.bound-1.eight_or_sixteen [ inl e ↦ rw e (lit< tt) | inr e ↦ rw e (lit< tt) ], (ap (λ (x : LiveView g.row.N). is_open x) same ∙ c.requires.closed, c.inputs-inputs.ensures.readings))

pub nothing-self-inside-requires : goal.nothing-self-inside-requires
nothing-self-inside-requires g c =
    elim g.bound-1.eight_or_sixteen [ inl e ↦ rw e (lit< tt) | inr e ↦ rw e (lit< tt) ]

pub invariant_of-self : goal.invariant_of-self
invariant_of-self g c =
    let v : LiveView g.row.N = record { scenario = c.self.inside.scenario.now; id = c.self.inside.id; node = c.self.inside.node; next = c.self.inside.next; run = c.self.inside.run; forgot = c.self.inside.forgot; given = c.self.inside.told.given; ahead = c.self.inside.told.ahead; longest = c.self.inside.longest } in
    let same : v ≡ c.args.self.now = c.self.view_is in
    let held : IsHeld v c.self.inside.slot (vec_capacity c.self.inside.frame) (vec_capacity c.self.inside.text) = c.self.invariant in
    let next : v.next ≡ c.args.self.now.next = ap (λ (x : LiveView g.row.N). x.next) same in
    let later = c.requires.later in
    let low : c.args.period < 2 ^ 32 = let fits = c.ranges.period.fits in omega (arith, fits) in
    held_begun v c.self.inside.slot (vec_capacity c.self.inside.frame) (vec_capacity c.self.inside.text) held c.args.period (c.from.result + 1) c.inputs-inputs.result c.begin.new.self c.nothing-self-inside.result.given c.nothing-self-inside.result.ahead c.begin.ensures
    (ap (λ n. n + 1) c.from.ensures) c.nothing-self-inside.ensures.given c.nothing-self-inside.ensures.ahead (omega (arith, next, later)) low

pub returns : goal.returns
returns g c =
    let v : LiveView g.row.N = record { scenario = c.self.inside.scenario.now; id = c.self.inside.id; node = c.self.inside.node; next = c.self.inside.next; run = c.self.inside.run; forgot = c.self.inside.forgot; given = c.self.inside.told.given; ahead = c.self.inside.told.ahead; longest = c.self.inside.longest } in
    let same : v ≡ c.args.self.now = c.self.view_is in
    let held : IsHeld v c.self.inside.slot (vec_capacity c.self.inside.frame) (vec_capacity c.self.inside.text) = c.self.invariant in
    begun_is v c.self.inside.slot (vec_capacity c.self.inside.frame) (vec_capacity c.self.inside.text) held c.args.period (c.from.result + 1) c.inputs-inputs.result c.begin.new.self c.nothing-self-inside.result.given c.nothing-self-inside.result.ahead c.begin.ensures
    (ap (λ n. n + 1) c.from.ensures) c.nothing-self-inside.ensures.given c.nothing-self-inside.ensures.ahead c.args.self.now same c.inputs-inputs.ensures.inputs

pub overflow_add-self : goal.overflow_add-self
overflow_add-self g c =
    let fits = c.ranges.period.fits in
    let same = c.from.ensures in
    omega (arith, fits, same)
