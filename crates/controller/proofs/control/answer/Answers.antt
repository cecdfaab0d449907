use Rattle.std.proofs.Common.{◌≡◌, ◌<◌, ◌≤◌, ℕ, Bool, true, false, List, length, sym, refl, subst, inl, inr}
use Rattle.std.specs.Prelude.{◌⊎◌}
use Rattle.run_text.specs.PeriodText.{refused_text}
use Rattle.input_lines.specs.Reading.{SourceView}
use Rattle.scenario.specs.Scenario.{ScenarioView}
use Rattle.input_lines.specs.Devices.{SinkView, WritesSome, source_seen, sink_seen}
use Rattle.controller.specs.Input.{scenario_limit}
use Rattle.live_node.specs.Live.{LiveView, IsNewLive}
use Rattle.controller.specs.Course.{closing}
use Rattle.controller.specs.Outcome.{capacity, first_event, IsAcceptedText, IsNode}
use Rattle.controller.specs.Session.{Concludes, Runs}
use Rattle.controller.specs.First.{at_first, RunsNode, AnswersFirst}
use Rattle.controller.specs.declared.control.FirstLine.{FirstLine}
use Rattle.program_words.specs.declared.status.Status.{Status}
use Rattle.program_words.specs.declared.status.Status.TheVariants.{Done, Usage, Unreadable, Refused, ReadFault, WriteFault, NoMemory, TooLong}
use Rattle.controller.proofs.control.answer.Goals as goal

-- the scenario has no node of this number
foreign : (first : FirstLine) (line : List ℕ) (id : ℕ) (sc : ScenarioView capacity) (a : SourceView) (old new : SinkView) (status : Status) → line ≡ first.lines.line → length first.lines.line ≤ scenario_limit
    → IsAcceptedText line sc → sc.config.nodes ≤ id → status ≡ Refused → WritesSome old new (refused_text 16 0) → AnswersFirst first id a a old new status
foreign first line id sc a old new status same short accepted none is wrote =
    subst (λ s. AnswersFirst first id a a old new s) (sym is)
    (inl (refused_text 16 0, record { short = short; rule = 16; place = 0; cause = inr (record { sc = sc; accepted = subst (λ l. IsAcceptedText l sc) same accepted; none = none; rule_is = refl; place_is = refl }); text_is = refl }, refl, wrote))

-- the node of an accepted scenario
is_node : (first : FirstLine) (line : List ℕ) (id : ℕ) (sc : ScenarioView capacity) (v : LiveView capacity) → line ≡ first.lines.line → length first.lines.line ≤ scenario_limit → IsAcceptedText line sc
    → id < sc.config.nodes → IsNewLive sc id v → IsNode first.lines.line id v
is_node first line id sc v same short accepted below new = record { short = short; sc = sc; accepted = subst (λ l. IsAcceptedText l sc) same accepted; below = below; new = new }

-- what a node does is no status of other calls
never : (ends : Bool) (v : LiveView capacity) (rest : List ℕ) (a b : SourceView) (old new : SinkView) (status : Status) → RunsNode ends v rest a b old new status → (status ≡ Usage) ⊎ ((status ≡ Unreadable) ⊎ (status ≡ NoMemory)) → ⊥
never true v rest a b old new status h (inl is) = subst (λ s. Concludes (closing v first_event rest) old new s) is h.1
never true v rest a b old new status h (inr (inl is)) = subst (λ s. Concludes (closing v first_event rest) old new s) is h.1
never true v rest a b old new status h (inr (inr is)) = subst (λ s. Concludes (closing v first_event rest) old new s) is h.1
never false v rest a b old new status h (inl is) = subst (λ s. Runs (at_first v rest) a b old new s) is h
never false v rest a b old new status h (inr (inl is)) = subst (λ s. Runs (at_first v rest) a b old new s) is h
never false v rest a b old new status h (inr (inr is)) = subst (λ s. Runs (at_first v rest) a b old new s) is h

-- what a node does is answered
by_node : (first : FirstLine) (id : ℕ) (a b : SourceView) (old new : SinkView) (v : LiveView capacity) (status : Status) → IsNode first.lines.line id v
    → RunsNode first.ends_input v first.lines.rest a b old new status → AnswersFirst first id a b old new status
by_node first id a b old new v Usage node h = never first.ends_input v first.lines.rest a b old new Usage h (inl refl)
by_node first id a b old new v Unreadable node h = absurd (never first.ends_input v first.lines.rest a b old new Unreadable h (inr (inl refl)))
by_node first id a b old new v NoMemory node h = absurd (never first.ends_input v first.lines.rest a b old new NoMemory h (inr (inr refl)))
by_node first id a b old new v Refused node h = inr (v, node, h)
by_node first id a b old new v Done node h = (v, node, h)
by_node first id a b old new v TooLong node h = (v, node, h)
by_node first id a b old new v WriteFault node h = (v, node, h)
by_node first id a b old new v ReadFault node h = (v, node, h)

-- nothing comes behind the first line
finished : (first : FirstLine) (id : ℕ) (a : SourceView) (old new : SinkView) (v : LiveView capacity) (number : ℕ) (rest : List ℕ) (status : Status) → IsNode first.lines.line id v
    → number ≡ first_event → rest ≡ first.lines.rest → first.ends_input ≡ true → Concludes (closing v number rest) old new status → AnswersFirst first id a a old new status
finished first id a old new v number rest status node is_first is_rest ends h =
    let at : Concludes (closing v first_event first.lines.rest) old new status = subst (λ r. Concludes (closing v first_event r) old new status) is_rest (subst (λ n. Concludes (closing v n rest) old new status) is_first h) in
    by_node first id a a old new v status node (subst (λ e. RunsNode e v first.lines.rest a a old new status) (sym ends) (refl, at))

-- all that comes behind it is read
ran : (first : FirstLine) (id : ℕ) (a b : SourceView) (old new : SinkView) (v : LiveView capacity) (number : ℕ) (rest : List ℕ) (status : Status) → IsNode first.lines.line id v
    → number ≡ first_event → rest ≡ first.lines.rest → first.ends_input ≡ false → Runs (record { node = v; number = number; rest = rest }) a b old new status → AnswersFirst first id a b old new status
ran first id a b old new v number rest status node is_first is_rest more h =
    let at : Runs (at_first v first.lines.rest) a b old new status =
    subst (λ r. Runs (at_first v r) a b old new status) is_rest (subst (λ n. Runs (record { node = v; number = n; rest = rest }) a b old new status) is_first h) in
    by_node first id a b old new v status node (subst (λ e. RunsNode e v first.lines.rest a b old new status) (sym more) at)

pub returns-then-id-config : goal.returns-then-id-config
returns-then-id-config g c =
    let a = c.in-Ok.ensures.accepted in
    let few : c.in-Ok.scenario.config.nodes ≤ c.args.id = rw c.config.ensures.config at c.if-id-config.true in
    foreign c.args.first c.line.result.now c.args.id c.in-Ok.scenario (source_seen g.S.Source.left g.S.Source.given g.S.Source.faults c.args.source.now) (sink_seen g.K.Sink.written g.K.Sink.faults c.args.sink.now)
    (sink_seen g.K.Sink.written g.K.Sink.faults c.refuse-then-id-config.new.sink) c.refuse-then-id-config.result c.line.ensures c.requires.short (record { value = a.0; reads = a.1; accepted = a.2 }) few
    c.refuse-then-id-config.ensures.status c.refuse-then-id-config.ensures.wrote

pub returns-then-ends_input : goal.returns-then-ends_input
returns-then-ends_input g c =
    let a = c.in-Ok.ensures.accepted in
    let few : c.args.id < c.in-Ok.scenario.config.nodes = rw c.config.ensures.config at c.if-id-config.false in
    let session = c.in-Ok-open.session in
    let o = c.in-Ok-open.ensures in
    finished c.args.first c.args.id (source_seen g.S.Source.left g.S.Source.given g.S.Source.faults c.args.source.now) (sink_seen g.K.Sink.written g.K.Sink.faults c.args.sink.now)
    (sink_seen g.K.Sink.written g.K.Sink.faults c.finish.new.sink) session.live session.number session.lines.rest c.finish.result
    (is_node c.args.first c.line.result.now c.args.id c.in-Ok.scenario session.live c.line.ensures c.requires.short (record { value = a.0; reads = a.1; accepted = a.2 }) few o.new) o.number o.rest c.if-ends_input.true c.finish.ensures

pub returns : goal.returns
returns g c =
    let a = c.in-Ok.ensures.accepted in
    let few : c.args.id < c.in-Ok.scenario.config.nodes = rw c.config.ensures.config at c.if-id-config.false in
    let session = c.in-Ok-open.session in
    let o = c.in-Ok-open.ensures in
    ran c.args.first c.args.id (source_seen g.S.Source.left g.S.Source.given g.S.Source.faults c.args.source.now)
    (source_seen g.S.Source.left g.S.Source.given g.S.Source.faults c.run.new.source) (sink_seen g.K.Sink.written g.K.Sink.faults c.args.sink.now) (sink_seen g.K.Sink.written g.K.Sink.faults c.run.new.sink)
    session.live session.number session.lines.rest c.run.result
    (is_node c.args.first c.line.result.now c.args.id c.in-Ok.scenario session.live c.line.ensures c.requires.short (record { value = a.0; reads = a.1; accepted = a.2 }) few o.new) o.number o.rest c.if-ends_input.false c.run.ensures
