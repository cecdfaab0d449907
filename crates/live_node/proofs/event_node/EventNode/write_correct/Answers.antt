use Rattle.std.proofs.Common.{◌≡◌, ℕ, List, sym, ap, subst, ◌∙◌, arith, inl, inr, lit<, w64, to_z, of_z}
use Rattle.std.specs.Prelude.{vec_capacity}
use Rattle.agreed_state.specs.declared.config.Config.{Config}
use Rattle.span_io.specs.Causes.{Writes}
use Rattle.run_print.specs.declared.WriteFault.{WriteFault}
use Rattle.live_node.specs.Live.{LiveView, correction, told_numbers, good_told}
use Rattle.live_node.specs.Standing.{IsHeld}
use Rattle.live_node.specs.Text.{correct_text}
use Rattle.live_node.proofs.Held.{held_larger}
use Rattle.node_steps.specs.Outcome.{Outcome}
use Rattle.protocol.specs.Clocks.{corrects}
use Rattle.std.proofs.Common.{rules}
use mir.Val.{SFits}
use Rattle.std.proofs.lemmas.Int.{to_z-of_z}
use Rattle.live_node.proofs.event_node.EventNode.write_correct.Goals as goal

pub config-requires : goal.config-requires
config-requires g c =
    elim g.bound-2.eight_or_sixteen [ inl e ↦ rw e (lit< tt, lit< tt) | inr e ↦ rw e (lit< tt, lit< tt) ]

pub correction_by-by-requires : goal.correction_by-by-requires
correction_by-by-requires g c =
    let v : LiveView g.row.N = record { scenario = c.self.inside.scenario.now; id = c.self.inside.id; node = c.self.inside.node; next = c.self.inside.next; run = c.self.inside.run; forgot = c.self.inside.forgot; given = c.self.inside.told.given; ahead = c.self.inside.told.ahead; longest = c.self.inside.longest } in
    let held : IsHeld v c.self.inside.slot (vec_capacity c.self.inside.frame) (vec_capacity c.self.inside.text) = c.self.invariant in
    (elim g.bound-2.eight_or_sixteen [ inl e ↦ rw e (lit< tt) | inr e ↦ rw e (lit< tt) ], (elim g.bound-2.eight_or_sixteen [ inl e ↦ rw e (lit< tt) | inr e ↦ rw e (lit< tt) ], (held.live.ahead.values, held.live.own)))

pub spell_correct-requires : goal.spell_correct-requires
spell_correct-requires g c =
    let v : LiveView g.row.N = record { scenario = c.self.inside.scenario.now; id = c.self.inside.id; node = c.self.inside.node; next = c.self.inside.next; run = c.self.inside.run; forgot = c.self.inside.forgot; given = c.self.inside.told.given; ahead = c.self.inside.told.ahead; longest = c.self.inside.longest } in
    let held : IsHeld v c.self.inside.slot (vec_capacity c.self.inside.frame) (vec_capacity c.self.inside.text) = c.self.invariant in
    let room = held.text_room in record { room = omega (arith, room) }

pub invariant_of-self : goal.invariant_of-self
invariant_of-self g c =
    let v : LiveView g.row.N = record { scenario = c.self.inside.scenario.now; id = c.self.inside.id; node = c.self.inside.node; next = c.self.inside.next; run = c.self.inside.run; forgot = c.self.inside.forgot; given = c.self.inside.told.given; ahead = c.self.inside.told.ahead; longest = c.self.inside.longest } in
    let held : IsHeld v c.self.inside.slot (vec_capacity c.self.inside.frame) (vec_capacity c.self.inside.text) = c.self.invariant in
    held_larger v c.self.inside.slot (vec_capacity c.self.inside.frame) (vec_capacity c.self.inside.text) held (vec_capacity c.self.inside.frame) (vec_capacity c.spell_correct.new.text) (omega arith) c.spell_correct.ensures.room

pub returns-clause-same : goal.returns-clause-same
returns-clause-same g c =
    c.self.view_is

pub returns-clause-wrote : goal.returns-clause-wrote
returns-clause-wrote g c =
    let v : LiveView g.row.N = record { scenario = c.self.inside.scenario.now; id = c.self.inside.id; node = c.self.inside.node; next = c.self.inside.next; run = c.self.inside.run; forgot = c.self.inside.forgot; given = c.self.inside.told.given; ahead = c.self.inside.told.ahead; longest = c.self.inside.longest } in
    let same : v ≡ c.args.self.now = c.self.view_is in
    let by : c.correction_by-by.result ≡ correction c.args.self.now =
    c.correction_by-by.ensures
    ∙ ap (λ (y : Config g.row.N). corrects y.m v.id (told_numbers v.ahead) c.args.outcome.now.members (good_told c.args.outcome.now.sync v.ahead) c.args.outcome.now.mode) c.config.ensures.config
    ∙ ap (λ (o : Outcome). corrects v.scenario.config.m v.id (told_numbers v.ahead) o.members (good_told o.sync v.ahead) o.mode) (c.requires.outcome ∙ sym (ap (λ (x : LiveView g.row.N). x.node.outcome) same))
    ∙ ap (λ (x : LiveView g.row.N). correction x) same in
    let fits : SFits w64 c.correction_by-by.result = search rules in
    let spelled : ◌≡◌ {A = List ℕ} c.spell_correct.new.text.items (correct_text (to_z w64 (of_z w64 c.correction_by-by.result))) = c.spell_correct.ensures.text in
    let kept : to_z w64 (of_z w64 c.correction_by-by.result) ≡ c.correction_by-by.result = to_z-of_z w64 c.correction_by-by.result fits in
    let lent : ◌≡◌ {A = List ℕ} c.as_slice.result.now c.spell_correct.new.text.items = c.as_slice.ensures.value in
    subst (λ (line : List ℕ). Writes {T = Unit {0}} {E = WriteFault} (g.K.Sink.written c.args.sink.now) (g.K.Sink.written c.write.new.sink) (g.K.Sink.faults c.args.sink.now) (g.K.Sink.faults c.write.new.sink) line c.write.result) (lent ∙ spelled ∙ ap correct_text (kept ∙ by)) c.write.ensures
