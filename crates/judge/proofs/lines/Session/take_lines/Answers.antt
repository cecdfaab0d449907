use Rattle.std.proofs.Common.{◌≡◌, ◌≤◌, Bool, true, [], ◌∷◌, ◌++◌, length, arith, sym, ap, ◌∙◌, subst, Ok}
use Rattle.input_lines.specs.Lines.{line_feed, IsUnbroken}
use Rattle.input_lines.specs.Reading.{LinesView, TakesLine, Takes}
use Rattle.input_lines.specs.Devices.{sink_seen, wrote_nothing, all_all}
use Rattle.judge.specs.Rows.{limit}
use Rattle.judge.specs.Session.{stand, Stops}
use Rattle.program_words.specs.declared.status.Status.{Status}
use Rattle.judge.proofs.Taking.{took_nothing, took_line, stopped_at}
use Rattle.judge.proofs.lines.Session.take_lines.Goals as goal

-- a line was taken
taken : (old new : LinesView) (b : Bool) → b ≡ true → old.limit ≡ limit → Takes old new (Ok b) → (old.rest ≡ new.line ++ line_feed ∷ new.rest) × IsUnbroken new.line × (length new.line ≤ limit) × (new.limit ≡ old.limit)
taken old new b is limited h =
    let t : TakesLine old new = subst (λ x. Takes old new (Ok x)) is h in
    (t.splits, t.unbroken, omega (arith, t.short, limited), t.limit)

pub lines-init : goal.lines-init
lines-init g c = record { lines = []; text = []; took = took_nothing (stand c.args.self.now); wrote = wrote_nothing (sink_seen g.K.Sink.written g.K.Sink.faults c.args.sink.now); ready = c.requires }

pub lines-preserved : goal.lines-preserved
lines-preserved g c =
    let i = c.lines.invariant in
    let t = taken c.lines.self.lines c.take.new.self c.in-Ok-true.field-0 c.in-Ok-true.field-0-test i.ready.limit c.in-Ok-true.ensures in
    let j = c.in_default.ensures in
    let line = c.take.new.self.line in
    let after = c.judge_taken.new.self in
    let splits = t.0 ∙ ap (λ (l : LinesView). line ++ line_feed ∷ l.rest) (sym c.judge_taken.ensures.lines) in
    record {
      lines = i.lines ++ line ∷ [];
      text = i.text ++ j.rows.0;
      took = took_line (stand c.args.self.now) (stand c.lines.self) i.lines i.text line after.lines.rest j.rows.0 after.number i.took splits t.1 t.2 j.rows.1 j.number;
      wrote = all_all (sink_seen g.K.Sink.written g.K.Sink.faults c.args.sink.now) (sink_seen g.K.Sink.written g.K.Sink.faults c.lines.sink) (sink_seen g.K.Sink.written g.K.Sink.faults c.judge_taken.new.sink) i.text j.rows.0 i.wrote j.rows.2;
      ready = record { limit = ap (λ (l : LinesView). l.limit) c.judge_taken.ensures.lines ∙ t.3 ∙ i.ready.limit };
    }

pub returns-in-Err-judge_taken-clause-takes : goal.returns-in-Err-judge_taken-clause-takes
returns-in-Err-judge_taken-clause-takes g c =
    let i = c.lines.invariant in
    let t = taken c.lines.self.lines c.take.new.self c.in-Ok-true.field-0 c.in-Ok-true.field-0-test i.ready.limit c.in-Ok-true.ensures in
    let line = c.take.new.self.line in
    subst (λ (s : Status). Stops s (stand c.args.self.now) (sink_seen g.K.Sink.written g.K.Sink.faults c.args.sink.now) (sink_seen g.K.Sink.written g.K.Sink.faults c.judge_taken.new.sink)) (sym c.end_of.ensures)
    (stopped_at c.in-Err-judge_taken.error (stand c.args.self.now) (stand c.lines.self) i.lines i.text line c.take.new.self.rest (sink_seen g.K.Sink.written g.K.Sink.faults c.args.sink.now)
    (sink_seen g.K.Sink.written g.K.Sink.faults c.lines.sink) (sink_seen g.K.Sink.written g.K.Sink.faults c.judge_taken.new.sink) i.took t.0 t.1 t.2 i.wrote c.in-Err-judge_taken.ensures.rows)
