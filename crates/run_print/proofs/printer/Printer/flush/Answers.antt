use Rattle.std.proofs.Common.{[], refl, append-nil}
use Rattle.run_print.proofs.Sending.{sent, dropped}
use Rattle.run_print.proofs.printer.Printer.flush.Goals as goal
use Rattle.run_print.proofs.printer.Printer.flush.Goals.{then-not-self, else-not-self}

pub returns-clause-prints : goal.returns-clause-prints
returns-clause-prints g c =
    elim c.if-not-self.branch [
      | then-not-self w ↦
          rw (w.sink-is, w.self-is, c.clear.ensures) (record {
            goes_on = λ old before done h.
                sent c.args.self.now.failed w.is_err-self.result old _ _ before _ _ c.args.self.now.gathered done [] w.write_all.result w.if-not-self.true w.is_err-self.ensures.value
                (rw (append-nil, ← w.as_slice.ensures) w.write_all.ensures) h;
          })
      | else-not-self w ↦
          rw (w.sink-is, w.self-is) (record { goes_on = λ old before done h. dropped c.args.self.now.failed c.args.self.now.failed old _ before _ c.args.self.now.gathered _ done [] w.if-not-self.false refl h })
    ]
