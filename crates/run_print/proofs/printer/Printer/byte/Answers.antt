use Rattle.std.proofs.Common.{◌∷◌, []}
use Rattle.run_print.proofs.Sending.{kept, unchanged}
use Rattle.run_print.proofs.printer.Printer.byte.Goals as goal

pub returns-then-not-push : goal.returns-then-not-push
returns-then-not-push g c = unchanged c.args.self.now c.push.new.self (c.push.ensures.full c.if-not-push.true) c.text_behind.ensures

pub returns-else-not-push : goal.returns-else-not-push
returns-else-not-push g c = record {
  goes_on = λ old before done h.
      kept c.args.self.now.failed old (g.K.Sink.written c.args.sink.now) before (g.K.Sink.faults c.args.sink.now) c.args.self.now.gathered c.push.new.self done (c.args.byte ∷ []) (c.push.ensures.pushed c.if-not-push.false) h;
}
