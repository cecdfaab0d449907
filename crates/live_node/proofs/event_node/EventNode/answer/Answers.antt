use Rattle.std.proofs.Common.{◌≡◌, ℕ, List, refl, sym, ap, subst, ◌∙◌, inl, inr, lit<}
use Rattle.std.specs.Prelude.{vec_capacity}
use Rattle.span_io.specs.Causes.{Writes}
use Rattle.run_print.specs.declared.WriteFault.{WriteFault}
use Rattle.live_node.specs.Live.{LiveView, is_open, answer, slot_answer}
use Rattle.live_node.specs.Seen.{event_in, IsAnswered}
use Rattle.live_node.specs.Standing.{IsHeld}
use Rattle.live_node.proofs.Held.{slot_at, opened_at, shut_at}
use Rattle.live_node.proofs.Taking.{silent, said, ran}
use Rattle.std.proofs.Common.{[]}
use Rattle.live_node.proofs.event_node.EventNode.answer.Goals as goal

pub write_say-requires : goal.write_say-requires
write_say-requires g c =
    let v : LiveView g.row.N = record { scenario = c.self.inside.scenario.now; id = c.self.inside.id; node = c.self.inside.node; next = c.self.inside.next; run = c.self.inside.run; forgot = c.self.inside.forgot; given = c.self.inside.told.given; ahead = c.self.inside.told.ahead; longest = c.self.inside.longest } in
    let same : v ≡ c.args.self.now = c.self.view_is in
    let held : IsHeld v c.self.inside.slot (vec_capacity c.self.inside.frame) (vec_capacity c.self.inside.text) = c.self.invariant in
    let opened = opened_at v.node c.self.inside.slot held.slot_is c.in-Some.slot c.in-Some.is in
    (elim g.bound-2.eight_or_sixteen [ inl e ↦ rw e (lit< tt) | inr e ↦ rw e (lit< tt) ], (sym (ap (λ (x : LiveView g.row.N). is_open x) same) ∙ opened, slot_at v.node c.self.inside.slot held.slot_is c.in-Some.slot c.in-Some.is opened ∙ ap (λ (x : LiveView g.row.N). x.node.phase.slot) same))

pub write_run-requires : goal.write_run-requires
write_run-requires g c =
    let v : LiveView g.row.N = record { scenario = c.self.inside.scenario.now; id = c.self.inside.id; node = c.self.inside.node; next = c.self.inside.next; run = c.self.inside.run; forgot = c.self.inside.forgot; given = c.self.inside.told.given; ahead = c.self.inside.told.ahead; longest = c.self.inside.longest } in
    let same : v ≡ c.args.self.now = c.self.view_is in
    let held : IsHeld v c.self.inside.slot (vec_capacity c.self.inside.frame) (vec_capacity c.self.inside.text) = c.self.invariant in
    let answered : IsAnswered c.args.event = elim c.in-Begin.is [ inl p ↦ subst IsAnswered (sym p.1) tt | inr p ↦ subst IsAnswered (sym p) tt ] in
    (elim g.bound-2.eight_or_sixteen [ inl e ↦ rw e (lit< tt) | inr e ↦ rw e (lit< tt) ], (sym (ap (λ (x : LiveView g.row.N). is_open x) same) ∙ shut_at v.node c.self.inside.slot held.slot_is c.in-None.is, c.requires.some answered))

pub returns-in-Some-clause-same : goal.returns-in-Some-clause-same
returns-in-Some-clause-same g c =
    c.write_say.ensures.same

pub returns-in-None-clause-same : goal.returns-in-None-clause-same
returns-in-None-clause-same g c =
    c.write_run.ensures.same

pub returns-in-Some-clause-wrote : goal.returns-in-Some-clause-wrote
returns-in-Some-clause-wrote g c =
    λ room.
    let v : LiveView g.row.N = record { scenario = c.self.inside.scenario.now; id = c.self.inside.id; node = c.self.inside.node; next = c.self.inside.next; run = c.self.inside.run; forgot = c.self.inside.forgot; given = c.self.inside.told.given; ahead = c.self.inside.told.ahead; longest = c.self.inside.longest } in
    let same : v ≡ c.args.self.now = c.self.view_is in
    let held : IsHeld v c.self.inside.slot (vec_capacity c.self.inside.frame) (vec_capacity c.self.inside.text) = c.self.invariant in
    let opened = opened_at v.node c.self.inside.slot held.slot_is c.in-Some.slot c.in-Some.is in
    let at = slot_at v.node c.self.inside.slot held.slot_is c.in-Some.slot c.in-Some.is opened ∙ ap (λ (x : LiveView g.row.N). x.node.phase.slot) same in
    let text = said c.args.self.now c.in-Some.slot at (sym (ap (λ (x : LiveView g.row.N). is_open x) same) ∙ opened) in
    let of_event : slot_answer c.args.self.now ≡ answer c.args.self.now (event_in room c.args.event) = elim c.in-Begin.is [ inl p ↦ sym (ap (λ e. answer c.args.self.now (event_in room e)) p.1) | inr p ↦ sym (ap (λ e. answer c.args.self.now (event_in room e)) p) ] in
    subst (λ (line : List ℕ). Writes {T = Unit {0}} {E = WriteFault} (g.K.Sink.written c.args.sink.now) (g.K.Sink.written c.write_say.new.sink) (g.K.Sink.faults c.args.sink.now) (g.K.Sink.faults c.write_say.new.sink) line c.write_say.result) (text ∙ of_event) c.write_say.ensures.wrote

pub returns-in-None-clause-wrote : goal.returns-in-None-clause-wrote
returns-in-None-clause-wrote g c =
    λ room.
    let v : LiveView g.row.N = record { scenario = c.self.inside.scenario.now; id = c.self.inside.id; node = c.self.inside.node; next = c.self.inside.next; run = c.self.inside.run; forgot = c.self.inside.forgot; given = c.self.inside.told.given; ahead = c.self.inside.told.ahead; longest = c.self.inside.longest } in
    let same : v ≡ c.args.self.now = c.self.view_is in
    let held : IsHeld v c.self.inside.slot (vec_capacity c.self.inside.frame) (vec_capacity c.self.inside.text) = c.self.invariant in
    let text = ran c.args.self.now (sym (ap (λ (x : LiveView g.row.N). is_open x) same) ∙ shut_at v.node c.self.inside.slot held.slot_is c.in-None.is) in
    let of_event : slot_answer c.args.self.now ≡ answer c.args.self.now (event_in room c.args.event) = elim c.in-Begin.is [ inl p ↦ sym (ap (λ e. answer c.args.self.now (event_in room e)) p.1) | inr p ↦ sym (ap (λ e. answer c.args.self.now (event_in room e)) p) ] in
    subst (λ (line : List ℕ). Writes {T = Unit {0}} {E = WriteFault} (g.K.Sink.written c.args.sink.now) (g.K.Sink.written c.write_run.new.sink) (g.K.Sink.faults c.args.sink.now) (g.K.Sink.faults c.write_run.new.sink) line c.write_run.result) (text ∙ of_event) c.write_run.ensures.wrote

pub returns-in-Deliver : goal.returns-in-Deliver
returns-in-Deliver g c =
    record {
      same = refl;
      wrote = λ room.
          let nothing : answer c.args.self.now (event_in room c.args.event) ≡ [] = elim c.in-Deliver.is [
            | inl p ↦ ap (λ e. answer c.args.self.now (event_in room e)) p.3
            | inr q ↦ elim q [
              | inl p ↦ ap (λ e. answer c.args.self.now (event_in room e)) p
              | inr r ↦ elim r [ inl p ↦ ap (λ e. answer c.args.self.now (event_in room e)) p.2 | inr p ↦ ap (λ e. answer c.args.self.now (event_in room e)) p.2 ]
            ]
          ] in
          silent (Unit {0}) WriteFault (g.K.Sink.written c.args.sink.now) (g.K.Sink.faults c.args.sink.now) (answer c.args.self.now (event_in room c.args.event)) tt nothing;
    }
