use Rattle.std.proofs.Common.{ap, sym}
use Rattle.frames.specs.Content.{kind}
use Rattle.frames.specs.Seen.{content}
use Rattle.frames.proofs.kind.Kind.of.Goals as goal

pub returns-in-State : goal.returns-in-State
returns-in-State g c = λ nodes. sym (ap (λ b. kind (content nodes b)) c.in-State.is)

pub returns-in-Done0 : goal.returns-in-Done0
returns-in-Done0 g c = λ nodes. sym (ap (λ b. kind (content nodes b)) c.in-Done0.is)

pub returns-in-DoneRelay : goal.returns-in-DoneRelay
returns-in-DoneRelay g c = λ nodes. sym (ap (λ b. kind (content nodes b)) c.in-DoneRelay.is)

pub returns-in-Data : goal.returns-in-Data
returns-in-Data g c = λ nodes. sym (ap (λ b. kind (content nodes b)) c.in-Data.is)

pub returns-in-Report0 : goal.returns-in-Report0
returns-in-Report0 g c = λ nodes. sym (ap (λ b. kind (content nodes b)) c.in-Report0.is)

pub returns-in-ReportRelay : goal.returns-in-ReportRelay
returns-in-ReportRelay g c = λ nodes. sym (ap (λ b. kind (content nodes b)) c.in-ReportRelay.is)

pub returns-in-Cold : goal.returns-in-Cold
returns-in-Cold g c = λ nodes. sym (ap (λ b. kind (content nodes b)) c.in-Cold.is)
