use Rattle.std.proofs.Common.{◌≡◌, ℕ, List, length, ap, subst, ◌∙◌, arith, inl, inr, lit<}
use Rattle.std.specs.Prelude.{vec_capacity}
use Rattle.node_steps.specs.Steps.{frame_of}
use Rattle.span_io.specs.Causes.{Writes}
use Rattle.run_print.specs.declared.WriteFault.{WriteFault}
use Rattle.live_node.specs.Live.{LiveView, is_open}
use Rattle.live_node.specs.Standing.{IsHeld}
use Rattle.live_node.specs.Text.{say_text}
use Rattle.live_node.proofs.Held.{held_larger}
use Rattle.live_node.proofs.event_node.EventNode.write_say.Goals as goal

pub say-requires : goal.say-requires
say-requires g c =
    let v : LiveView g.row.N = record { scenario = c.self.inside.scenario.now; id = c.self.inside.id; node = c.self.inside.node; next = c.self.inside.next; run = c.self.inside.run; forgot = c.self.inside.forgot; given = c.self.inside.told.given; ahead = c.self.inside.told.ahead; longest = c.self.inside.longest } in
    let same : v ≡ c.args.self.now = c.self.view_is in
    let held : IsHeld v c.self.inside.slot (vec_capacity c.self.inside.frame) (vec_capacity c.self.inside.text) = c.self.invariant in
    (elim g.bound-2.eight_or_sixteen [ inl e ↦ rw e (lit< tt) | inr e ↦ rw e (lit< tt) ], (ap (λ (x : LiveView g.row.N). is_open x) same ∙ c.requires.open, held.frame_room))

pub spell_say-requires : goal.spell_say-requires
spell_say-requires g c =
    let v : LiveView g.row.N = record { scenario = c.self.inside.scenario.now; id = c.self.inside.id; node = c.self.inside.node; next = c.self.inside.next; run = c.self.inside.run; forgot = c.self.inside.forgot; given = c.self.inside.told.given; ahead = c.self.inside.told.ahead; longest = c.self.inside.longest } in
    let held : IsHeld v c.self.inside.slot (vec_capacity c.self.inside.frame) (vec_capacity c.self.inside.text) = c.self.invariant in
    let short = c.say.ensures.short in
    let long = ap length c.as_slice.ensures.value in
    let room = held.text_room in
    record { room = omega (arith, short, long, room) }

pub invariant_of-self : goal.invariant_of-self
invariant_of-self g c =
    let v : LiveView g.row.N = record { scenario = c.self.inside.scenario.now; id = c.self.inside.id; node = c.self.inside.node; next = c.self.inside.next; run = c.self.inside.run; forgot = c.self.inside.forgot; given = c.self.inside.told.given; ahead = c.self.inside.told.ahead; longest = c.self.inside.longest } in
    let held : IsHeld v c.self.inside.slot (vec_capacity c.self.inside.frame) (vec_capacity c.self.inside.text) = c.self.invariant in
    held_larger v c.self.inside.slot (vec_capacity c.self.inside.frame) (vec_capacity c.self.inside.text) held (vec_capacity c.say.new.out) (vec_capacity c.spell_say.new.text) c.say.ensures.room c.spell_say.ensures.room

pub returns-clause-same : goal.returns-clause-same
returns-clause-same g c =
    c.self.view_is

pub returns-clause-wrote : goal.returns-clause-wrote
returns-clause-wrote g c =
    subst (λ (line : List ℕ). Writes {T = Unit {0}} {E = WriteFault} (g.K.Sink.written c.args.sink.now) (g.K.Sink.written c.write.new.sink) (g.K.Sink.faults c.args.sink.now) (g.K.Sink.faults c.write.new.sink) line c.write.result)
    (c.as_slice-2.ensures.value ∙ c.spell_say.ensures.text ∙ ap (say_text c.args.slot) (c.as_slice.ensures.value ∙ c.say.ensures.bytes ∙ ap (λ (x : LiveView g.row.N). frame_of x.node) c.self.view_is))
    c.write.ensures
