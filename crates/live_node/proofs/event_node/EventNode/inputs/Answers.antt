use Rattle.std.proofs.Common.{◌≡◌, ℤ, List, sym, ap, subst, ◌∙◌, inl, inr, lit<}
use Rattle.std.specs.Prelude.{All, vec_capacity}
use Rattle.agreed_state.specs.declared.config.Inputs.{Inputs}
use Rattle.frames.specs.Content.{IsValue}
use Rattle.live_node.specs.Live.{LiveView, inputs_given, replaced}
use Rattle.live_node.specs.Standing.{IsHeld}
use Rattle.live_node.proofs.Keeping.{values_replaced}
use Rattle.live_node.proofs.event_node.EventNode.inputs.Goals as goal

pub inputs-inputs-requires : goal.inputs-inputs-requires
inputs-inputs-requires g c =
    let v : LiveView g.row.N = record { scenario = c.self.inside.scenario.now; id = c.self.inside.id; node = c.self.inside.node; next = c.self.inside.next; run = c.self.inside.run; forgot = c.self.inside.forgot; given = c.self.inside.told.given; ahead = c.self.inside.told.ahead; longest = c.self.inside.longest } in
    let held : IsHeld v c.self.inside.slot (vec_capacity c.self.inside.frame) (vec_capacity c.self.inside.text) = c.self.invariant in
    (elim g.bound-1.eight_or_sixteen [ inl e ↦ rw e (lit< tt) | inr e ↦ rw e (lit< tt) ], held.live.id)

pub returns-clause-inputs : goal.returns-clause-inputs
returns-clause-inputs g c =
    let v : LiveView g.row.N = record { scenario = c.self.inside.scenario.now; id = c.self.inside.id; node = c.self.inside.node; next = c.self.inside.next; run = c.self.inside.run; forgot = c.self.inside.forgot; given = c.self.inside.told.given; ahead = c.self.inside.told.ahead; longest = c.self.inside.longest } in
    let same : v ≡ c.args.self.now = c.self.view_is in
    ap (λ (xs : List ℤ). record c.inputs-inputs.result { reading = xs }) c.replace.ensures
    ∙ ap (λ (i : Inputs). record i { reading = replaced v.given i.reading }) c.inputs-inputs.ensures
    ∙ ap (λ (x : LiveView g.row.N). inputs_given x c.args.period) same

pub returns-clause-readings : goal.returns-clause-readings
returns-clause-readings g c =
    let v : LiveView g.row.N = record { scenario = c.self.inside.scenario.now; id = c.self.inside.id; node = c.self.inside.node; next = c.self.inside.next; run = c.self.inside.run; forgot = c.self.inside.forgot; given = c.self.inside.told.given; ahead = c.self.inside.told.ahead; longest = c.self.inside.longest } in
    let held : IsHeld v c.self.inside.slot (vec_capacity c.self.inside.frame) (vec_capacity c.self.inside.text) = c.self.invariant in
    subst (All IsValue) (sym c.replace.ensures)
    (values_replaced v.given c.inputs-inputs.result.reading held.live.given.values
    (subst (λ (i : Inputs). All IsValue i.reading) (sym c.inputs-inputs.ensures) (held.live.scenario.system.inputs v.id c.args.period held.live.id).readings))
