use Rattle.std.proofs.Common.{◌≡◌, ℕ, ◌≤◌, Bool, true, List, [], ◌∷◌, ◌++◌, length, arith, sym, ap, ◌∙◌, subst, Ok}
use Rattle.input_lines.specs.Lines.{line_feed, IsUnbroken}
use Rattle.input_lines.specs.Reading.{LinesView, TakesLine, Takes}
use Rattle.input_lines.specs.Devices.{wrote_nothing, all_all, sink_seen}
use Rattle.controller.specs.Input.{event_limit}
use Rattle.controller.proofs.Taking.{took_nothing, took_line}
use Rattle.controller.proofs.Stopping.{stops_taken}
use Rattle.controller.specs.Session.{stand}
use Rattle.controller.proofs.session.Session.take_lines.Goals as goal

-- a line was taken, which was lent
taken : (old new : LinesView) (b : Bool) (line : List ℕ) → b ≡ true → line ≡ new.line → old.limit ≡ event_limit → Takes old new (Ok b)
    → (old.rest ≡ line ++ line_feed ∷ new.rest) × IsUnbroken line × (length line ≤ event_limit) × (new.limit ≡ old.limit) × (new.room ≡ old.room)
taken old new b line is same limit h =
    let t : TakesLine old new = subst (λ x. Takes old new (Ok x)) is h in
    (t.splits ∙ ap (λ l. l ++ line_feed ∷ new.rest) (sym same), subst IsUnbroken (sym same) t.unbroken, omega (arith, t.short, ap length same, limit), t.limit, t.room)

pub lines-init : goal.lines-init
lines-init g c = record { lines = []; text = []; took = took_nothing (stand c.args.self.now); wrote = wrote_nothing (sink_seen g.K.Sink.written g.K.Sink.faults c.args.sink.now); ready = c.requires }

pub returns-in-Err-answer_line-clause-takes : goal.returns-in-Err-answer_line-clause-takes
returns-in-Err-answer_line-clause-takes g c =
    let t = taken c.lines.self.lines c.take.new.self c.in-Ok-true.field-0 c.line.result.now c.in-Ok-true.field-0-test c.line.ensures c.lines.invariant.ready.limit c.in-Ok-true.ensures in
    stops_taken c.in-Err-answer_line.status (stand c.args.self.now) (stand c.lines.self) c.lines.invariant.lines c.lines.invariant.text c.line.result.now c.take.new.self.rest
    (sink_seen g.K.Sink.written g.K.Sink.faults c.args.sink.now) (sink_seen g.K.Sink.written g.K.Sink.faults c.lines.sink) (sink_seen g.K.Sink.written g.K.Sink.faults c.answer_line.new.sink)
    c.lines.invariant.took t.0 t.1 t.2 c.lines.invariant.wrote c.in-Err-answer_line.ensures.answers

pub lines-preserved : goal.lines-preserved
lines-preserved g c =
    let t = taken c.lines.self.lines c.take.new.self c.in-Ok-true.field-0 c.line.result.now c.in-Ok-true.field-0-test c.line.ensures c.lines.invariant.ready.limit c.in-Ok-true.ensures in
    let a = c.in_default.ensures.answers in
    let to = took_line (stand c.args.self.now) (stand c.lines.self) c.lines.invariant.lines c.lines.invariant.text c.line.result.now c.take.new.self.rest a.0 c.answer_line.new.live c.lines.invariant.took t.0 t.1 t.2 a.1 in
    record {
      lines = c.lines.invariant.lines ++ c.line.result.now ∷ [];
      text = c.lines.invariant.text ++ a.0;
      took = record { begins = to.begins; stands = to.stands; number = c.saturating_add-self.ensures ∙ to.number };
      wrote = all_all (sink_seen g.K.Sink.written g.K.Sink.faults c.args.sink.now) (sink_seen g.K.Sink.written g.K.Sink.faults c.lines.sink) (sink_seen g.K.Sink.written g.K.Sink.faults c.answer_line.new.sink)
          c.lines.invariant.text a.0 c.lines.invariant.wrote a.2;
      ready = record {
        limit = t.3 ∙ c.lines.invariant.ready.limit;
        room = omega (arith, t.4, c.lines.invariant.ready.room);
        longest = c.in_default.ensures.longest ∙ c.lines.invariant.ready.longest;
      };
    }
