use Rattle.std.proofs.Common.{◌≡◌, ◌≤◌, [], length, inr, refl, subst}
use Rattle.std.proofs.KnownBytes.{Keeps-refl}
use Rattle.std.specs.Prelude.{IfSome}
use Rattle.top_call.specs.declared.form.Command.{Command}
use Rattle.top_call.specs.declared.form.Command.TheVariants.{Read, Storm}
use Rattle.program_words.specs.declared.status.Status.TheVariants.{Done, Usage, Unreadable, Refused, ReadFault, WriteFault, NoMemory, TooLong}
use Rattle.run_text.specs.StormText.{storm_text}
use Rattle.storm_sum.specs.Laws.{storm_summary}
use Rattle.top_call.specs.Words.{texts, Calls}
use Rattle.top_call.specs.Answers.{input_limit, IsWhole}
use Rattle.top_call.proofs.Deciding.{answered, of_known}
use Rattle.top_call.proofs.Ending.{answers_so, storm_so, sink_told, storm_sink_told, storm_decided}
use Rattle.top_call.proofs.program.maft.Goals as goal

pub returns-in-Ok-clause-decided : goal.returns-in-Ok-clause-decided
returns-in-Ok-clause-decided g c =
    let bytes = c.as_slice.result.now in
    let short : length bytes ≤ input_limit = rw c.as_slice.ensures.value c.in-Ok.ensures.within in
    let all : IfSome (g.S.Source.left c.args.source.now) (λ xs. bytes ≡ xs) = rw c.as_slice.ensures.value c.in-Ok.ensures.whole in
    let calls : Calls (texts c.args.words.now) (Read c.in-Some-Read.reading) = subst (λ (command : Command). Calls (texts c.args.words.now) command) c.in-Some-Read.field-0-is c.in-Some-Read.ensures.found in
    inr (Read c.in-Some-Read.reading, calls, λ silent. of_known c.in-Some-Read.reading (g.S.Source.left c.args.source.now) bytes _ _ c.answer.result all (answered c.in-Some-Read.reading bytes _ _ _ _ c.answer.result short c.answer.ensures))

pub returns-in-Ok-clause-usage : goal.returns-in-Ok-clause-usage
returns-in-Ok-clause-usage g c =
    let calls : Calls (texts c.args.words.now) (Read c.in-Some-Read.reading) = subst (λ (command : Command). Calls (texts c.args.words.now) command) c.in-Some-Read.field-0-is c.in-Some-Read.ensures.found in
    (λ e. absurd (answers_so c.in-Some-Read.reading c.as_slice.result.now _ _ _ _ c.answer.result Usage c.answer.ensures e), λ none. absurd (none (Read c.in-Some-Read.reading) calls))

pub returns-in-Ok-clause-usage_untouched : goal.returns-in-Ok-clause-usage_untouched
returns-in-Ok-clause-usage_untouched g c =
    λ e. absurd (answers_so c.in-Some-Read.reading c.as_slice.result.now _ _ _ _ c.answer.result Usage c.answer.ensures e)

pub returns-in-Ok-clause-read_fault : goal.returns-in-Ok-clause-read_fault
returns-in-Ok-clause-read_fault g c =
    λ e. absurd (answers_so c.in-Some-Read.reading c.as_slice.result.now _ _ _ _ c.answer.result ReadFault c.answer.ensures e)

pub returns-in-Ok-clause-too_long : goal.returns-in-Ok-clause-too_long
returns-in-Ok-clause-too_long g c =
    λ e. absurd (answers_so c.in-Some-Read.reading c.as_slice.result.now _ _ _ _ c.answer.result TooLong c.answer.ensures e)

pub returns-in-Ok-clause-sink_faults : goal.returns-in-Ok-clause-sink_faults
returns-in-Ok-clause-sink_faults g c =
    sink_told c.in-Some-Read.reading c.as_slice.result.now _ _ _ _ c.answer.result c.answer.ensures

pub returns-in-Ok-clause-unreadable : goal.returns-in-Ok-clause-unreadable
returns-in-Ok-clause-unreadable g c =
    let bytes = c.as_slice.result.now in
    let whole : IsWhole (g.S.Source.left c.args.source.now) (g.S.Source.left c.read_all.new.source) bytes =
    record { all = rw c.as_slice.ensures.value c.in-Ok.ensures.whole; end = c.in-Ok.ensures.end; short = rw c.as_slice.ensures.value c.in-Ok.ensures.within } in
    λ e. let a = answers_so c.in-Some-Read.reading c.as_slice.result.now _ _ _ _ c.answer.result Unreadable c.answer.ensures e in (bytes, whole, a.0, a.1)

pub returns-in-Ok-clause-refused : goal.returns-in-Ok-clause-refused
returns-in-Ok-clause-refused g c =
    let calls : Calls (texts c.args.words.now) (Read c.in-Some-Read.reading) = subst (λ (command : Command). Calls (texts c.args.words.now) command) c.in-Some-Read.field-0-is c.in-Some-Read.ensures.found in
    let bytes = c.as_slice.result.now in
    let whole : IsWhole (g.S.Source.left c.args.source.now) (g.S.Source.left c.read_all.new.source) bytes =
    record { all = rw c.as_slice.ensures.value c.in-Ok.ensures.whole; end = c.in-Ok.ensures.end; short = rw c.as_slice.ensures.value c.in-Ok.ensures.within } in
    λ e. let a = answers_so c.in-Some-Read.reading c.as_slice.result.now _ _ _ _ c.answer.result Refused c.answer.ensures e in (c.in-Some-Read.reading, bytes, a.0, a.1, calls, whole, a.2, a.3)

pub returns-in-Ok-clause-write_fault : goal.returns-in-Ok-clause-write_fault
returns-in-Ok-clause-write_fault g c =
    let calls : Calls (texts c.args.words.now) (Read c.in-Some-Read.reading) = subst (λ (command : Command). Calls (texts c.args.words.now) command) c.in-Some-Read.field-0-is c.in-Some-Read.ensures.found in
    let bytes = c.as_slice.result.now in
    let whole : IsWhole (g.S.Source.left c.args.source.now) (g.S.Source.left c.read_all.new.source) bytes =
    record { all = rw c.as_slice.ensures.value c.in-Ok.ensures.whole; end = c.in-Ok.ensures.end; short = rw c.as_slice.ensures.value c.in-Ok.ensures.within } in
    λ e. let a = answers_so c.in-Some-Read.reading c.as_slice.result.now _ _ _ _ c.answer.result WriteFault c.answer.ensures e in (Read c.in-Some-Read.reading, bytes, a.0, calls, whole, a.1, a.2, a.3)

pub returns-in-Ok-clause-no_memory : goal.returns-in-Ok-clause-no_memory
returns-in-Ok-clause-no_memory g c =
    λ e. (answers_so c.in-Some-Read.reading c.as_slice.result.now _ _ _ _ c.answer.result NoMemory c.answer.ensures e).0

pub returns-in-Ok-clause-done : goal.returns-in-Ok-clause-done
returns-in-Ok-clause-done g c =
    let calls : Calls (texts c.args.words.now) (Read c.in-Some-Read.reading) = subst (λ (command : Command). Calls (texts c.args.words.now) command) c.in-Some-Read.field-0-is c.in-Some-Read.ensures.found in
    let bytes = c.as_slice.result.now in
    let whole : IsWhole (g.S.Source.left c.args.source.now) (g.S.Source.left c.read_all.new.source) bytes =
    record { all = rw c.as_slice.ensures.value c.in-Ok.ensures.whole; end = c.in-Ok.ensures.end; short = rw c.as_slice.ensures.value c.in-Ok.ensures.within } in
    λ e. let a = answers_so c.in-Some-Read.reading c.as_slice.result.now _ _ _ _ c.answer.result Done c.answer.ensures e in (Read c.in-Some-Read.reading, bytes, a.0, calls, whole, a.1, a.2)

pub returns-in-Some-Storm-clause-usage : goal.returns-in-Some-Storm-clause-usage
returns-in-Some-Storm-clause-usage g c =
    let calls : Calls (texts c.args.words.now) (Storm c.in-Some-Storm.seed) = subst (λ (command : Command). Calls (texts c.args.words.now) command) c.in-Some-Storm.field-0-is c.in-Some-Storm.ensures.found in
    (λ e. absurd (storm_so c.in-Some-Storm.seed _ _ _ _ c.answer_storm.result Usage c.answer_storm.ensures e), λ none. absurd (none (Storm c.in-Some-Storm.seed) calls))

pub returns-in-Some-Storm-clause-usage_untouched : goal.returns-in-Some-Storm-clause-usage_untouched
returns-in-Some-Storm-clause-usage_untouched g c =
    λ e. absurd (storm_so c.in-Some-Storm.seed _ _ _ _ c.answer_storm.result Usage c.answer_storm.ensures e)

pub returns-in-Some-Storm-clause-read_fault : goal.returns-in-Some-Storm-clause-read_fault
returns-in-Some-Storm-clause-read_fault g c =
    λ e. absurd (storm_so c.in-Some-Storm.seed _ _ _ _ c.answer_storm.result ReadFault c.answer_storm.ensures e)

pub returns-in-Some-Storm-clause-too_long : goal.returns-in-Some-Storm-clause-too_long
returns-in-Some-Storm-clause-too_long g c =
    λ e. absurd (storm_so c.in-Some-Storm.seed _ _ _ _ c.answer_storm.result TooLong c.answer_storm.ensures e)

pub returns-in-Some-Storm-clause-unreadable : goal.returns-in-Some-Storm-clause-unreadable
returns-in-Some-Storm-clause-unreadable g c =
    λ e. absurd (storm_so c.in-Some-Storm.seed _ _ _ _ c.answer_storm.result Unreadable c.answer_storm.ensures e)

pub returns-in-Some-Storm-clause-refused : goal.returns-in-Some-Storm-clause-refused
returns-in-Some-Storm-clause-refused g c =
    λ e. absurd (storm_so c.in-Some-Storm.seed _ _ _ _ c.answer_storm.result Refused c.answer_storm.ensures e)

pub returns-in-Some-Storm-clause-sink_faults : goal.returns-in-Some-Storm-clause-sink_faults
returns-in-Some-Storm-clause-sink_faults g c =
    storm_sink_told c.in-Some-Storm.seed _ _ _ _ c.answer_storm.result c.answer_storm.ensures

pub returns-in-Some-Storm-clause-write_fault : goal.returns-in-Some-Storm-clause-write_fault
returns-in-Some-Storm-clause-write_fault g c =
    let calls : Calls (texts c.args.words.now) (Storm c.in-Some-Storm.seed) = subst (λ (command : Command). Calls (texts c.args.words.now) command) c.in-Some-Storm.field-0-is c.in-Some-Storm.ensures.found in
    λ e. let a = storm_so c.in-Some-Storm.seed _ _ _ _ c.answer_storm.result WriteFault c.answer_storm.ensures e in (Storm c.in-Some-Storm.seed, [], storm_text (storm_summary c.in-Some-Storm.seed), calls, record { left = Keeps-refl _; given = refl }, (refl, a.0, a.1), a.2, a.3)

pub returns-in-Some-Storm-clause-no_memory : goal.returns-in-Some-Storm-clause-no_memory
returns-in-Some-Storm-clause-no_memory g c =
    λ e. (storm_so c.in-Some-Storm.seed _ _ _ _ c.answer_storm.result NoMemory c.answer_storm.ensures e).0

pub returns-in-Some-Storm-clause-done : goal.returns-in-Some-Storm-clause-done
returns-in-Some-Storm-clause-done g c =
    let calls : Calls (texts c.args.words.now) (Storm c.in-Some-Storm.seed) = subst (λ (command : Command). Calls (texts c.args.words.now) command) c.in-Some-Storm.field-0-is c.in-Some-Storm.ensures.found in
    λ e. let a = storm_so c.in-Some-Storm.seed _ _ _ _ c.answer_storm.result Done c.answer_storm.ensures e in (Storm c.in-Some-Storm.seed, [], storm_text (storm_summary c.in-Some-Storm.seed), calls, record { left = Keeps-refl _; given = refl }, (refl, a.0, a.1), a.2)

pub returns-in-Some-Storm-clause-decided : goal.returns-in-Some-Storm-clause-decided
returns-in-Some-Storm-clause-decided g c =
    let calls : Calls (texts c.args.words.now) (Storm c.in-Some-Storm.seed) = subst (λ (command : Command). Calls (texts c.args.words.now) command) c.in-Some-Storm.field-0-is c.in-Some-Storm.ensures.found in
    inr (Storm c.in-Some-Storm.seed, calls, storm_decided c.in-Some-Storm.seed _ _ _ _ c.answer_storm.result c.answer_storm.ensures)
