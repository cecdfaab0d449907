use Rattle.std.proofs.Common.{◌≡◌, ◌<◌, ◌≤◌, true, false, not, sym, ap, ◌∙◌, arith, inl, inr, lit<}
use Rattle.std.specs.Prelude.{is_some, vec_capacity}
use Rattle.node_grid.specs.TruthFacts.{is_some_map}
use Rattle.run_print.specs.declared.WriteFault.{WriteFault}
use Rattle.run_text.specs.PeriodText.{alone_text}
use Rattle.live_node.specs.Live.{LiveView, is_open, correction, period_answer}
use Rattle.live_node.specs.Standing.{IsHeld}
use Rattle.live_node.specs.Text.{correct_text}
use Rattle.std.proofs.Common.{◌++◌, ◌-◌}
use Rattle.live_node.proofs.Taking.{period_lines, lines_are, with_clock, without_clock, front_failed, front_all, front_and_rest}
use Rattle.std.proofs.Common.{if◌then◌else◌, []}
use Rattle.live_node.proofs.event_node.EventNode.write_run.Goals as goal

pub config-config-requires : goal.config-config-requires
config-config-requires g c =
    elim g.bound-2.eight_or_sixteen [ inl e ↦ rw e (lit< tt, lit< tt) | inr e ↦ rw e (lit< tt, lit< tt) ]

pub record-outcome-requires : goal.record-outcome-requires
record-outcome-requires g c =
    let v : LiveView g.row.N = record { scenario = c.self.inside.scenario.now; id = c.self.inside.id; node = c.self.inside.node; next = c.self.inside.next; run = c.self.inside.run; forgot = c.self.inside.forgot; given = c.self.inside.told.given; ahead = c.self.inside.told.ahead; longest = c.self.inside.longest } in
    let same : v ≡ c.args.self.now = c.self.view_is in
    (elim g.bound-2.eight_or_sixteen [ inl e ↦ rw e (lit< tt) | inr e ↦ rw e (lit< tt) ], (elim g.bound-2.eight_or_sixteen [ inl e ↦ rw e (lit< tt) | inr e ↦ rw e (lit< tt) ], ap (λ (x : LiveView g.row.N). is_open x) same ∙ c.requires.closed))

pub overflow_sub-period : goal.overflow_sub-period
overflow_sub-period g c =
    let next = ap (λ (x : LiveView g.row.N). x.next) c.self.view_is in let some = c.requires.some in omega (arith, next, some)

pub overflow_cast-period : goal.overflow_cast-period
overflow_cast-period g c =
    let v : LiveView g.row.N = record { scenario = c.self.inside.scenario.now; id = c.self.inside.id; node = c.self.inside.node; next = c.self.inside.next; run = c.self.inside.run; forgot = c.self.inside.forgot; given = c.self.inside.told.given; ahead = c.self.inside.told.ahead; longest = c.self.inside.longest } in
    let held : IsHeld v c.self.inside.slot (vec_capacity c.self.inside.frame) (vec_capacity c.self.inside.text) = c.self.invariant in
    let next = held.live.next in omega (arith, next)

pub write_alone-requires : goal.write_alone-requires
write_alone-requires g c = (elim g.bound-2.eight_or_sixteen [ inl e ↦ rw e (lit< tt) | inr e ↦ rw e (lit< tt) ], elim g.bound-2.eight_or_sixteen [ inl e ↦ rw e (lit< tt) | inr e ↦ rw e (lit< tt) ])

pub clock-requires : goal.clock-requires
clock-requires g c =
    elim g.bound-2.eight_or_sixteen [ inl e ↦ rw e (lit< tt, lit< tt) | inr e ↦ rw e (lit< tt, lit< tt) ]

pub write_correct-requires : goal.write_correct-requires
write_correct-requires g c =
    let v : LiveView g.row.N = record { scenario = c.self.inside.scenario.now; id = c.self.inside.id; node = c.self.inside.node; next = c.self.inside.next; run = c.self.inside.run; forgot = c.self.inside.forgot; given = c.self.inside.told.given; ahead = c.self.inside.told.ahead; longest = c.self.inside.longest } in
    let same : v ≡ c.args.self.now = c.self.view_is in
    (elim g.bound-2.eight_or_sixteen [ inl e ↦ rw e (lit< tt) | inr e ↦ rw e (lit< tt) ], (elim g.bound-2.eight_or_sixteen [ inl e ↦ rw e (lit< tt) | inr e ↦ rw e (lit< tt) ], c.record-outcome.ensures ∙ ap (λ (x : LiveView g.row.N). x.node.outcome) same))

pub returns-in_default-clause-wrote : goal.returns-in_default-clause-wrote
returns-in_default-clause-wrote g c =
    let v : LiveView g.row.N = record { scenario = c.self.inside.scenario.now; id = c.self.inside.id; node = c.self.inside.node; next = c.self.inside.next; run = c.self.inside.run; forgot = c.self.inside.forgot; given = c.self.inside.told.given; ahead = c.self.inside.told.ahead; longest = c.self.inside.longest } in
    let same : v ≡ c.args.self.now = c.self.view_is in
    let held : IsHeld v c.self.inside.slot (vec_capacity c.self.inside.frame) (vec_capacity c.self.inside.text) = c.self.invariant in
    let some : 0 < v.next = let next = ap (λ (x : LiveView g.row.N). x.next) same in let some' = c.requires.some in omega (arith, next, some') in
    let lines : alone_text (c.self.inside.next - 1) c.self.inside.id c.config-config.result.now.nodes c.config-config.result.now.policy.retire c.record-outcome.result ≡ period_lines c.args.self.now =
    lines_are v c.args.self.now same (c.self.inside.next - 1) c.config-config.result.now c.record-outcome.result (omega (arith, some)) (held.live.period some) c.config-config.ensures.config c.record-outcome.ensures in
    front_failed (Unit {0}) (Unit {0}) WriteFault WriteFault (g.K.Sink.written c.args.sink.now) (g.K.Sink.written c.write_alone.new.sink) (g.K.Sink.faults c.args.sink.now) (g.K.Sink.faults c.write_alone.new.sink) (alone_text (c.self.inside.next - 1) c.self.inside.id c.config-config.result.now.nodes c.config-config.result.now.policy.retire c.record-outcome.result) (if is_some c.args.self.now.scenario.clock then correct_text (correction c.args.self.now) else []) (period_answer c.args.self.now) c.write_alone.result c.in_default.field-0 _
    c.in_default.is (ap (λ xs. xs ++ (if is_some c.args.self.now.scenario.clock then correct_text (correction c.args.self.now) else [])) lines) c.write_alone.ensures

pub returns-then-is_none-clause-wrote : goal.returns-then-is_none-clause-wrote
returns-then-is_none-clause-wrote g c =
    let v : LiveView g.row.N = record { scenario = c.self.inside.scenario.now; id = c.self.inside.id; node = c.self.inside.node; next = c.self.inside.next; run = c.self.inside.run; forgot = c.self.inside.forgot; given = c.self.inside.told.given; ahead = c.self.inside.told.ahead; longest = c.self.inside.longest } in
    let same : v ≡ c.args.self.now = c.self.view_is in
    let held : IsHeld v c.self.inside.slot (vec_capacity c.self.inside.frame) (vec_capacity c.self.inside.text) = c.self.invariant in
    let some : 0 < v.next = let next = ap (λ (x : LiveView g.row.N). x.next) same in let some' = c.requires.some in omega (arith, next, some') in
    let lines : alone_text (c.self.inside.next - 1) c.self.inside.id c.config-config.result.now.nodes c.config-config.result.now.policy.retire c.record-outcome.result ≡ period_lines c.args.self.now =
    lines_are v c.args.self.now same (c.self.inside.next - 1) c.config-config.result.now c.record-outcome.result (omega (arith, some)) (held.live.period some) c.config-config.ensures.config c.record-outcome.ensures in
    let clock : is_some c.args.self.now.scenario.clock ≡ false =
    sym (ap (λ (x : LiveView g.row.N). is_some x.scenario.clock) same) ∙ sym (ap is_some c.clock.ensures.clock) ∙ is_some_map _ c.clock.result ∙ c.is_none.ensures ∙ ap not c.if-is_none.true in
    front_all (Unit {0}) (Unit {0}) WriteFault WriteFault (g.K.Sink.written c.args.sink.now) (g.K.Sink.written c.write_alone.new.sink) (g.K.Sink.faults c.args.sink.now) (g.K.Sink.faults c.write_alone.new.sink) (alone_text (c.self.inside.next - 1) c.self.inside.id c.config-config.result.now.nodes c.config-config.result.now.policy.retire c.record-outcome.result) (period_answer c.args.self.now) c.write_alone.result c.in-Ok.field-0 tt c.in-Ok.is (lines ∙ without_clock c.args.self.now clock) c.write_alone.ensures

pub returns-clause-same : goal.returns-clause-same
returns-clause-same g c =
    c.write_correct.ensures.same

pub returns-clause-wrote : goal.returns-clause-wrote
returns-clause-wrote g c =
    let v : LiveView g.row.N = record { scenario = c.self.inside.scenario.now; id = c.self.inside.id; node = c.self.inside.node; next = c.self.inside.next; run = c.self.inside.run; forgot = c.self.inside.forgot; given = c.self.inside.told.given; ahead = c.self.inside.told.ahead; longest = c.self.inside.longest } in
    let same : v ≡ c.args.self.now = c.self.view_is in
    let held : IsHeld v c.self.inside.slot (vec_capacity c.self.inside.frame) (vec_capacity c.self.inside.text) = c.self.invariant in
    let some : 0 < v.next = let next = ap (λ (x : LiveView g.row.N). x.next) same in let some' = c.requires.some in omega (arith, next, some') in
    let lines : alone_text (c.self.inside.next - 1) c.self.inside.id c.config-config.result.now.nodes c.config-config.result.now.policy.retire c.record-outcome.result ≡ period_lines c.args.self.now =
    lines_are v c.args.self.now same (c.self.inside.next - 1) c.config-config.result.now c.record-outcome.result (omega (arith, some)) (held.live.period some) c.config-config.ensures.config c.record-outcome.ensures in
    let clock : is_some c.args.self.now.scenario.clock ≡ true =
    sym (ap (λ (x : LiveView g.row.N). is_some x.scenario.clock) same) ∙ sym (ap is_some c.clock.ensures.clock) ∙ is_some_map _ c.clock.result ∙ c.is_none.ensures ∙ ap not c.if-is_none.false in
    front_and_rest (Unit {0}) WriteFault (g.K.Sink.written c.args.sink.now) (g.K.Sink.written c.write_alone.new.sink) (g.K.Sink.written c.write_correct.new.sink) (g.K.Sink.faults c.args.sink.now) (g.K.Sink.faults c.write_alone.new.sink) (g.K.Sink.faults c.write_correct.new.sink)
    (alone_text (c.self.inside.next - 1) c.self.inside.id c.config-config.result.now.nodes c.config-config.result.now.policy.retire c.record-outcome.result) (correct_text (correction c.args.self.now)) (period_answer c.args.self.now) c.write_alone.result c.write_correct.result c.in-Ok.field-0 c.in-Ok.is (ap (λ xs. xs ++ correct_text (correction c.args.self.now)) lines ∙ with_clock c.args.self.now clock) c.write_alone.ensures c.write_correct.ensures.wrote
