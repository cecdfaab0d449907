use Rattle.std.proofs.Common.{◌≡◌, ℕ, Some, length, inl, inr, lit<, sym, ap, subst, ◌∙◌, arith}
use Rattle.frames.specs.Content.{Content, Expectation}
use Rattle.frames.specs.Seen.{content, expected, HasWidth}
use Rattle.frames.specs.Spelling.{body_spelling}
use Rattle.frames.specs.declared.frame.Body.{Body}
use Rattle.fault_link.specs.Arrival.{delivered_of}
use Rattle.fault_classes.specs.Change.{change_of}
use Rattle.agreed_state.specs.ConfigLaws.{few_rounds}
use Rattle.protocol.specs.Arrival.{body_said, read_as}
use Rattle.protocol.specs.Talk.{frame_by}
use Rattle.protocol.specs.Run.{state_content}
use Rattle.protocol.specs.Configured.{setting_of}
use Rattle.touched_frames.specs.Arrived.{part_of, seen}
use Rattle.touched_frames.specs.declared.arrived.Arrived.{Arrived}
use Rattle.touched_frames.proofs.Effects.{parts_law}
use Rattle.heard_states.specs.Slot.{expected_of}
use Rattle.heard_states.specs.Told.{sent_by}
use Rattle.heard_states.specs.Hearing.{IsShortState}
use Rattle.heard_states.proofs.Frames.{expectation_is, said_short, read_short}
use Rattle.heard_states.proofs.Sendings.{said_is, said_full, said_cold, arrived_read}
use Rattle.heard_states.proofs.sending.Sending.told_read.Goals.{then-has, else-has}
use Rattle.heard_states.proofs.sending.Sending.told_read.Goals as goal

pub arrives-requires : goal.arrives-requires
arrives-requires g c =
    let x = c.args.self.now in
    let ok = c.requires.sending in
    let config = x.slot.config.now in
    let e = c.expect-expect.result in
    let is : expected e ≡ expected_of config x.slot.period c.args.from = c.expect-expect.ensures ∙ expectation_is config x.slot.period c.args.from in
    let nodes_are : e.nodes ≡ config.nodes = ap (λ (t : Expectation). t.nodes) is in
    let said : content e.nodes c.if-has.frame ≡ state_content (setting_of config) (sent_by x.senders.full x.states.now c.args.from) = elim c.if-has.branch [
      | then-has w ↦ ap (content e.nodes) w.frame-is ∙ said_full x ok c.args.from c.args.state.now (sym c.has.ensures ∙ w.if-has.true) c.requires.state
      | else-has w ↦ ap (content e.nodes) w.frame-is ∙ said_cold x ok c.args.from (sym c.has.ensures ∙ w.if-has.false)
    ] in
    let short = ap (λ (t : Content). length (body_spelling e.nodes t)) said in
    let few = said_short config ok.slot_is.capacity ok.slot_is.config x.slot.period c.args.from e.nodes (state_content (setting_of config) (sent_by x.senders.full x.states.now c.args.from)) (said_is x ok c.args.from) in (
      elim ok.slot_is.capacity [ inl q ↦ rw q (lit< tt) | inr q ↦ rw q (lit< tt) ],
      (
        lit< tt,
        (
          elim ok.slot_is.capacity [ inl q ↦ rw q (lit< tt) | inr q ↦ rw q (lit< tt) ],
          (
            record {
              capacity_ok = ok.slot_is.capacity;
              some_nodes = omega (arith, nodes_are, ok.slot_is.config.some_nodes);
              few_nodes = omega (arith, nodes_are, ok.slot_is.config.few_nodes);
              few_rounds = omega (arith, ap (λ (t : Expectation). t.m) is, few_rounds g.row.N config ok.slot_is.config);
            },
            (
              elim c.if-has.branch [
                | then-has w ↦ subst (λ (b : Body g.row.N). HasWidth e.nodes b) (sym w.frame-is) tt
                | else-has w ↦ subst (λ (b : Body g.row.N). HasWidth e.nodes b) (sym w.frame-is) tt
              ],
              (omega (arith, short, few), omega (arith, short, few)),
            ),
          ),
        ),
      ),
    )

pub told_in-requires : goal.told_in-requires
told_in-requires g c =
    let x = c.args.self.now in
    let ok = c.requires.sending in
    let config = x.slot.config.now in
    let e = c.expect-expect.result in
    let is : expected e ≡ expected_of config x.slot.period c.args.from = c.expect-expect.ensures ∙ expectation_is config x.slot.period c.args.from in
    let nodes_are : e.nodes ≡ config.nodes = ap (λ (t : Expectation). t.nodes) is in
    let said : content e.nodes c.if-has.frame ≡ state_content (setting_of config) (sent_by x.senders.full x.states.now c.args.from) = elim c.if-has.branch [
      | then-has w ↦ ap (content e.nodes) w.frame-is ∙ said_full x ok c.args.from c.args.state.now (sym c.has.ensures ∙ w.if-has.true) c.requires.state
      | else-has w ↦ ap (content e.nodes) w.frame-is ∙ said_cold x ok c.args.from (sym c.has.ensures ∙ w.if-has.false)
    ] in
    let as_read = arrived_read x ok c.args.from (change_of c.args.effect.now) e c.if-has.frame c.head.result c.arrives.result is said c.head.ensures c.arrives.ensures in
    let said_in = state_content (setting_of config) (sent_by x.senders.full x.states.now c.args.from) in (
      elim ok.slot_is.capacity [ inl q ↦ rw q (lit< tt) | inr q ↦ rw q (lit< tt) ],
      subst (λ (k : ℕ). IsShortState (content k c.in-Good.body)) nodes_are
          (read_short config ok.slot_is.capacity ok.slot_is.config x.slot.period c.args.from (Some (change_of c.args.effect.now)) said_in (content e.nodes c.in-Good.body) (sym as_read ∙ ap (λ (r : Arrived g.row.N). seen e.nodes r) c.in-Good.is)),
    )

pub returns-in-Bad : goal.returns-in-Bad
returns-in-Bad g c =
    let x = c.args.self.now in
    let ok = c.requires.sending in
    let config = x.slot.config.now in
    let e = c.expect-expect.result in
    let is : expected e ≡ expected_of config x.slot.period c.args.from = c.expect-expect.ensures ∙ expectation_is config x.slot.period c.args.from in
    let nodes_are : e.nodes ≡ config.nodes = ap (λ (t : Expectation). t.nodes) is in
    let said : content e.nodes c.if-has.frame ≡ state_content (setting_of config) (sent_by x.senders.full x.states.now c.args.from) = elim c.if-has.branch [
      | then-has w ↦ ap (content e.nodes) w.frame-is ∙ said_full x ok c.args.from c.args.state.now (sym c.has.ensures ∙ w.if-has.true) c.requires.state
      | else-has w ↦ ap (content e.nodes) w.frame-is ∙ said_cold x ok c.args.from (sym c.has.ensures ∙ w.if-has.false)
    ] in
    let as_read = arrived_read x ok c.args.from (change_of c.args.effect.now) e c.if-has.frame c.head.result c.arrives.result is said c.head.ensures c.arrives.ensures in
    let said_in = state_content (setting_of config) (sent_by x.senders.full x.states.now c.args.from) in
    let own = expected_of config x.slot.period c.args.from in
    sym (
    parts_law body_said own (delivered_of (Some (change_of c.args.effect.now)) (frame_by own said_in))
    ∙ ap (part_of body_said) (sym as_read ∙ ap (λ (r : Arrived g.row.N). seen e.nodes r) c.in-Bad.is)
    )

pub returns-in-Good : goal.returns-in-Good
returns-in-Good g c =
    let x = c.args.self.now in
    let ok = c.requires.sending in
    let config = x.slot.config.now in
    let e = c.expect-expect.result in
    let is : expected e ≡ expected_of config x.slot.period c.args.from = c.expect-expect.ensures ∙ expectation_is config x.slot.period c.args.from in
    let nodes_are : e.nodes ≡ config.nodes = ap (λ (t : Expectation). t.nodes) is in
    let said : content e.nodes c.if-has.frame ≡ state_content (setting_of config) (sent_by x.senders.full x.states.now c.args.from) = elim c.if-has.branch [
      | then-has w ↦ ap (content e.nodes) w.frame-is ∙ said_full x ok c.args.from c.args.state.now (sym c.has.ensures ∙ w.if-has.true) c.requires.state
      | else-has w ↦ ap (content e.nodes) w.frame-is ∙ said_cold x ok c.args.from (sym c.has.ensures ∙ w.if-has.false)
    ] in
    let as_read = arrived_read x ok c.args.from (change_of c.args.effect.now) e c.if-has.frame c.head.result c.arrives.result is said c.head.ensures c.arrives.ensures in
    let said_in = state_content (setting_of config) (sent_by x.senders.full x.states.now c.args.from) in
    let own = expected_of config x.slot.period c.args.from in
    c.told_in.ensures g.row.N config (sent_by x.senders.full x.states.now c.args.from)
    ∙ ap (λ (k : ℕ). read_as (body_said (content k c.in-Good.body))) (sym nodes_are)
    ∙ sym (
    parts_law body_said own (delivered_of (Some (change_of c.args.effect.now)) (frame_by own said_in))
    ∙ ap (part_of body_said) (sym as_read ∙ ap (λ (r : Arrived g.row.N). seen e.nodes r) c.in-Good.is)
    )
