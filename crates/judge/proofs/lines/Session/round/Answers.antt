use Rattle.std.proofs.Common.{sym, subst}
use Rattle.input_lines.specs.Devices.{sink_seen, source_seen}
use Rattle.judge.specs.Session.{stand, StopsRound}
use Rattle.program_words.specs.declared.status.Status.{Status}
use Rattle.judge.proofs.Taking.{round_unread}
use Rattle.judge.proofs.lines.Session.round.Goals as goal

pub returns-in-Err-clause-rounds : goal.returns-in-Err-clause-rounds
returns-in-Err-clause-rounds g c =
    let a = source_seen g.S.Source.left g.S.Source.given g.S.Source.faults c.args.source.now in
    let b = source_seen g.S.Source.left g.S.Source.given g.S.Source.faults c.read.new.source in
    let k = sink_seen g.K.Sink.written g.K.Sink.faults c.args.sink.now in
    subst (λ (s : Status). StopsRound s (stand c.args.self.now) a b k k) (sym c.status_of.ensures)
    (round_unread c.in-Err.error c.args.self.now.lines c.read.new.self c.args.self.now.number a b k c.in-Err.ensures)
