-- A session that reads more and more.
use Rattle.std.proofs.Common.{◌≡◌, ℕ, List, [], ◌++◌, append_assoc, append-nil, refl, sym, ap, ◌∙◌, subst, inl, inr}
use Rattle.std.specs.Io.KnownBytes.{IsAtEnd}
use Rattle.node_grid.specs.ListFacts.{consumes_kept}
use Rattle.span_io.specs.Causes.{Rose}
use Rattle.input_lines.specs.Reading.{SourceView, GivesBytes}
use Rattle.input_lines.specs.Devices.{told_left, SinkView, WritesAll, all_all, all_front, all_some, nothing_left, gave_both}
use Rattle.controller.specs.Course.{Ending, ending_behind, behind, course, closing, ending_of}
use Rattle.controller.specs.Session.{Stand, Took, CaughtUp, Stops, StopsRound, Concludes, Runs, with_more}
use Rattle.program_words.specs.declared.status.Status.{Status}
use Rattle.program_words.specs.declared.status.Status.TheVariants.{Done, Usage, Unreadable, Refused, ReadFault, WriteFault, NoMemory, TooLong}
use Rattle.controller.proofs.Courses.{course_both}
use Rattle.input_lines.specs.Splits.{begins_both, begins_same}
use Rattle.controller.proofs.Taking.{took_more}
use Rattle.controller.proofs.Endings.{at_end, at_refusal, at_long}

-- ---- stops

-- a session that caught up is stopped later
pub stops_later : (status : Status) (from mid : Stand) (first second : List ℕ) (lines : List (List ℕ)) (text : List ℕ) (a b c : SinkView) → Took (with_more from first) mid lines text → WritesAll a b text
    → Stops status (with_more mid second) b c → Stops status (with_more from (first ++ second)) a c
stops_later TooLong from mid first second lines text a b c t wrote s =
    (s.0, lines ++ s.1, text ++ s.2, took_more from mid s.0 first second lines s.1 text s.2 t s.3, s.4, all_all a b c text s.2 wrote s.5)
stops_later Refused from mid first second lines text a b c t wrote s = (
  s.0,
  lines ++ s.1,
  text ++ s.2,
  begins_same _ _ (lines ++ s.1) s.0 (append_assoc from.rest first second) (begins_both (from.rest ++ first) second s.0 lines s.1 mid.rest t.begins s.3),
  course_both from.node mid.node from.number lines s.1 text t.stands ∙ ap (λ n. behind text (course mid.node n s.1)) (sym t.number) ∙ ap (behind text) s.4,
  all_some a b c text s.2 wrote s.5,
)
stops_later WriteFault from mid first second lines text a b c t wrote s =
    (s.0, lines ++ s.1, text ++ s.2, took_more from mid s.0 first second lines s.1 text s.2 t s.3, all_front a b c text s.2 wrote s.4)
stops_later Done from mid first second lines text a b c t wrote s = absurd s
stops_later Usage from mid first second lines text a b c t wrote s = absurd s
stops_later Unreadable from mid first second lines text a b c t wrote s = absurd s
stops_later ReadFault from mid first second lines text a b c t wrote s = absurd s
stops_later NoMemory from mid first second lines text a b c t wrote s = absurd s

-- a run that is stopped
pub runs_stopped : (status : Status) (from : Stand) (more : List ℕ) (a b : SourceView) (old new : SinkView) → GivesBytes a b more → Stops status (with_more from more) old new → Runs from a b old new status
runs_stopped TooLong from more a b old new gave s = (more, s.2, gave, inl (at_long (with_more from more) s.0 s.1 s.2 (told_left b.left) s.3 s.4), s.5)
runs_stopped Refused from more a b old new gave s = (more, s.2, gave, at_refusal (with_more from more) s.1 s.0 (told_left b.left) (record { status = Refused; text = s.2 }) s.3 s.4, s.5)
runs_stopped WriteFault from more a b old new gave s = (more, s.2, gave, inl (s.0, s.1, s.3), s.4)
runs_stopped Done from more a b old new gave s = absurd s
runs_stopped Usage from more a b old new gave s = absurd s
runs_stopped Unreadable from more a b old new gave s = absurd s
runs_stopped ReadFault from more a b old new gave s = absurd s
runs_stopped NoMemory from more a b old new gave s = absurd s

-- a round that stops it
module _ (from mid : Stand) (first : List ℕ) (text : List ℕ) (a b c : SourceView) (old now new : SinkView) where
  pub runs_in_round : (status : Status) → GivesBytes a b first → CaughtUp (with_more from first) mid text → WritesAll old now text → StopsRound status mid b c now new → Runs from a c old new status
  runs_in_round ReadFault gave caught wrote s = (
    first,
    text,
    mid,
    consumes_kept a.left b.left c.left first gave.left s.0.left,
    subst (λ n. Rose n c.faults) gave.faults s.1,
    caught,
    subst (λ k. WritesAll old k text) (sym s.2) wrote,
  )
  runs_in_round TooLong gave caught wrote s =
      runs_stopped TooLong from (first ++ s.0) a c old new (gave_both a b c first s.0 gave s.1) (stops_later TooLong from mid first s.0 caught.lines text old now new caught.took wrote s.2)
  runs_in_round Refused gave caught wrote s =
      runs_stopped Refused from (first ++ s.0) a c old new (gave_both a b c first s.0 gave s.1) (stops_later Refused from mid first s.0 caught.lines text old now new caught.took wrote s.2)
  runs_in_round WriteFault gave caught wrote s =
      runs_stopped WriteFault from (first ++ s.0) a c old new (gave_both a b c first s.0 gave s.1) (stops_later WriteFault from mid first s.0 caught.lines text old now new caught.took wrote s.2)
  runs_in_round Done gave caught wrote s = absurd s.2
  runs_in_round Usage gave caught wrote s = absurd s.2
  runs_in_round Unreadable gave caught wrote s = absurd s.2
  runs_in_round NoMemory gave caught wrote s = absurd s.2

  -- the end of the input
  end_is : IsAtEnd b.left → CaughtUp (with_more from first) mid text → (e : Ending) → closing mid.node mid.number mid.rest ≡ e
      → ending_of from.node from.number ((from.rest ++ first) ++ told_left b.left) ≡ record { status = e.status; text = text ++ e.text }
  end_is over caught e is =
      ap (λ x. ending_of from.node from.number ((from.rest ++ first) ++ x)) (nothing_left b.left over) ∙ ap (ending_of from.node from.number) (append-nil (from.rest ++ first))
      ∙ at_end (with_more from first) mid caught.lines text caught.took caught.unbroken ∙ ap (ending_behind text) is

-- a run whose input is over
pub runs_over : (from mid : Stand) (more text : List ℕ) (a b : SourceView) (old now new : SinkView) (status : Status) → GivesBytes a b more → IsAtEnd b.left → CaughtUp (with_more from more) mid text → WritesAll old now text
    → Concludes (closing mid.node mid.number mid.rest) now new status → Runs from a b old new status
runs_over from mid more text a b old now new Done gave over caught wrote s =
    let e = closing mid.node mid.number mid.rest in (
      more,
      text ++ e.text,
      gave,
      over,
      end_is from mid more text a b b old now new over caught e refl ∙ ap (λ x. record { status = x; text = text ++ e.text }) s.0,
      all_all old now new text e.text wrote s.1,
    )
runs_over from mid more text a b old now new Refused gave over caught wrote s =
    let e = closing mid.node mid.number mid.rest in (
      more,
      text ++ e.text,
      gave,
      end_is from mid more text a b b old now new over caught e refl ∙ ap (λ x. record { status = x; text = text ++ e.text }) s.0,
      all_some old now new text e.text wrote s.1,
    )
runs_over from mid more text a b old now new WriteFault gave over caught wrote s =
    let e = closing mid.node mid.number mid.rest in (
      more,
      text ++ e.text,
      gave,
      inr (end_is from mid more text a b b old now new over caught e refl ∙ ap (λ x. record { status = x; text = text ++ e.text }) s.0),
      all_front old now new text e.text wrote s.1,
    )
runs_over from mid more text a b old now new TooLong gave over caught wrote s = absurd s
runs_over from mid more text a b old now new Usage gave over caught wrote s = absurd s
runs_over from mid more text a b old now new Unreadable gave over caught wrote s = absurd s
runs_over from mid more text a b old now new ReadFault gave over caught wrote s = absurd s
runs_over from mid more text a b old now new NoMemory gave over caught wrote s = absurd s

-- ---- rounds, one after another

pub caught_up_more : (from mid to : Stand) (first second text more : List ℕ) → CaughtUp (with_more from first) mid text → CaughtUp (with_more mid second) to more → CaughtUp (with_more from (first ++ second)) to (text ++ more)
caught_up_more from mid to first second text more a b = record {
  lines = a.lines ++ b.lines;
  took = took_more from mid to first second a.lines b.lines text more a.took b.took;
  unbroken = b.unbroken;
  short = b.short;
}

pub with_none : (from : Stand) → with_more from [] ≡ from
with_none from = ap (λ r. record from { rest = r }) (append-nil from.rest)
