use Rattle.std.proofs.Common.{◌≡◌, ℕ, ◌+◌, ◌≤◌, Bool, true, false, List, [], ◌++◌, length, arith, subst, length-append, Ok}
use Rattle.input_lines.specs.Reading.{SourceView, GivesBytes}
use Rattle.input_lines.specs.Devices.{SinkView, sink_seen, source_seen, WritesAll, gave_nothing, gave_both, gave_no_more, wrote_nothing, all_all}
use Rattle.judge.specs.Session.{Stand, stand, CaughtUp, Rounds, Concludes, Runs, with_more}
use Rattle.program_words.specs.declared.status.Status.{Status}
use Rattle.judge.proofs.Taking.{caught_up_nothing, caught_up_more}
use Rattle.judge.proofs.Running.{runs_in_round, runs_over, runs_full}
use Rattle.judge.proofs.lines.Session.run.Goals as goal

-- a round that read more, after others
more_rounds : (from mid to : Stand) (first text : List ℕ) (a b c : SourceView) (old now new : SinkView) (r : Bool) (counter : ℕ) → r ≡ true → counter ≤ length first → GivesBytes a b first
    → CaughtUp (with_more from first) mid text → WritesAll old now text → Rounds mid to b c now new (Ok r)
    → (more : List ℕ) × (all : List ℕ) × (counter + 1 ≤ length more) × GivesBytes a c more × CaughtUp (with_more from more) to all × WritesAll old new all
more_rounds from mid to first text a b c old now new r counter is many gave caught wrote h =
    let s : Rounds mid to b c now new (Ok true) = subst (λ x. Rounds mid to b c now new (Ok x)) is h in
    (first ++ s.0, text ++ s.1, omega (arith, many, s.2, length-append first s.0), gave_both a b c first s.0 gave s.3, caught_up_more from mid to first s.0 text s.1 caught s.4, all_all old now new text s.1 wrote s.5)

-- a round that read no more
last_round : (from mid to : Stand) (first text : List ℕ) (a b c : SourceView) (old now mid_sink new : SinkView) (r : Bool) (status : Status) → r ≡ false → GivesBytes a b first
    → CaughtUp (with_more from first) mid text → WritesAll old now text → Rounds mid to b c now mid_sink (Ok r) → Concludes to.number to.rest mid_sink new status → Runs from a c old new status
last_round from mid to first text a b c old now mid_sink new r status is gave caught wrote h last =
    let s : Rounds mid to b c now mid_sink (Ok false) = subst (λ x. Rounds mid to b c now mid_sink (Ok x)) is h in
    runs_over from mid first text a c old now new status (gave_no_more a b c first gave s.1) s.0 caught wrote
    (subst (λ k. Concludes mid.number mid.rest k new status) s.3 (subst (λ (t : Stand). Concludes t.number t.rest mid_sink new status) s.2 last))

pub rounds-init : goal.rounds-init
rounds-init g c = record {
  more = [];
  text = [];
  many = omega arith;
  given = gave_nothing (source_seen g.S.Source.left g.S.Source.given g.S.Source.faults c.args.source.now);
  caught_up = caught_up_nothing (stand c.args.self.now) c.requires.nothing;
  wrote = wrote_nothing (sink_seen g.K.Sink.written g.K.Sink.faults c.args.sink.now);
  ready = c.requires.ready;
}

pub returns-in-Err : goal.returns-in-Err
returns-in-Err g c =
    let i = c.rounds.invariant in
    runs_in_round (stand c.args.self.now) (stand c.rounds.self) i.more i.text (source_seen g.S.Source.left g.S.Source.given g.S.Source.faults c.args.source.now)
    (source_seen g.S.Source.left g.S.Source.given g.S.Source.faults c.rounds.source) (source_seen g.S.Source.left g.S.Source.given g.S.Source.faults c.round.new.source)
    (sink_seen g.K.Sink.written g.K.Sink.faults c.args.sink.now) (sink_seen g.K.Sink.written g.K.Sink.faults c.rounds.sink) (sink_seen g.K.Sink.written g.K.Sink.faults c.round.new.sink)
    c.in-Err.status i.given i.caught_up i.wrote c.in-Err.ensures.rounds

pub rounds-preserved : goal.rounds-preserved
rounds-preserved g c =
    let i = c.rounds.invariant in
    let m = more_rounds (stand c.args.self.now) (stand c.rounds.self) (stand c.round.new.self) i.more i.text (source_seen g.S.Source.left g.S.Source.given g.S.Source.faults c.args.source.now)
    (source_seen g.S.Source.left g.S.Source.given g.S.Source.faults c.rounds.source) (source_seen g.S.Source.left g.S.Source.given g.S.Source.faults c.round.new.source)
    (sink_seen g.K.Sink.written g.K.Sink.faults c.args.sink.now) (sink_seen g.K.Sink.written g.K.Sink.faults c.rounds.sink) (sink_seen g.K.Sink.written g.K.Sink.faults c.round.new.sink)
    c.in-Ok-true.field-0 c.rounds.counter c.in-Ok-true.field-0-test i.many i.given i.caught_up i.wrote c.in-Ok-true.ensures.rounds in
    record { more = m.0; text = m.1; many = m.2; given = m.3; caught_up = m.4; wrote = m.5; ready = c.in-Ok-true.ensures.ready }

pub returns-in-Ok-false : goal.returns-in-Ok-false
returns-in-Ok-false g c =
    let i = c.rounds.invariant in
    last_round (stand c.args.self.now) (stand c.rounds.self) (stand c.round.new.self) i.more i.text (source_seen g.S.Source.left g.S.Source.given g.S.Source.faults c.args.source.now)
    (source_seen g.S.Source.left g.S.Source.given g.S.Source.faults c.rounds.source) (source_seen g.S.Source.left g.S.Source.given g.S.Source.faults c.round.new.source)
    (sink_seen g.K.Sink.written g.K.Sink.faults c.args.sink.now) (sink_seen g.K.Sink.written g.K.Sink.faults c.rounds.sink) (sink_seen g.K.Sink.written g.K.Sink.faults c.round.new.sink)
    (sink_seen g.K.Sink.written g.K.Sink.faults c.finish.new.sink) c.in-Ok-false.field-0 c.finish.result c.in-Ok-false.field-0-test i.given i.caught_up i.wrote c.in-Ok-false.ensures.rounds c.finish.ensures

pub returns : goal.returns
returns g c =
    let i = c.rounds.invariant in
    runs_full (stand c.args.self.now) (stand c.rounds.self) i.more i.text (source_seen g.S.Source.left g.S.Source.given g.S.Source.faults c.args.source.now)
    (source_seen g.S.Source.left g.S.Source.given g.S.Source.faults c.rounds.source) (sink_seen g.K.Sink.written g.K.Sink.faults c.args.sink.now) (sink_seen g.K.Sink.written g.K.Sink.faults c.rounds.sink)
    i.given i.caught_up i.wrote (omega (arith, i.many, c.rounds-test.false, c.rounds.auto.counter-end))
