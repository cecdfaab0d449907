use Rattle.std.proofs.Common.{refl}
use Rattle.run_print.proofs.Sending.{sent_alone, dropped, kept}
use Rattle.run_print.proofs.printer.Printer.text_first.Goals as goal
use Rattle.run_print.proofs.printer.Printer.text_first.Goals.{else-not-extend-via-then-not-extend+else-not-self, else-not-extend-via-else-not-extend}

pub returns-then-not-self : goal.returns-then-not-self
returns-then-not-self g c =
    rw c.if-not-extend.ensures.full (record {
      goes_on = λ old before done h.
          sent_alone c.args.self.now.failed c.is_err-self.result old _ _ before _ _ c.args.self.now.gathered done c.args.bytes.now c.write_all.result c.requires c.if-not-self.true c.is_err-self.ensures.value c.write_all.ensures h;
    })

pub returns-else-not-extend : goal.returns-else-not-extend
returns-else-not-extend g c =
    let failed = c.args.self.now.failed in
    let first = c.args.self.now.gathered in
    elim c.else-not-extend.branch [
      | else-not-extend-via-then-not-extend+else-not-self w ↦
          record { goes_on = λ old before done h. dropped failed failed old _ before _ first c.extend.new.self done c.args.bytes.now w.if-not-self.false refl h }
      | else-not-extend-via-else-not-extend w ↦
          record { goes_on = λ old before done h. kept failed old _ before _ first c.extend.new.self done c.args.bytes.now (c.extend.ensures.extended w.if-not-extend.false) h }
    ]
