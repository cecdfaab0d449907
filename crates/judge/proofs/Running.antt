-- A session that reads more and more.
use Rattle.std.proofs.Common.{◌≡◌, ℕ, ◌-◌, ◌^◌, ◌≤◌, List, [], ◌++◌, length, append-nil, sym, ap, ◌∙◌, subst, inl, inr}
use Rattle.std.specs.Io.KnownBytes.{IsAtEnd}
use Rattle.node_grid.specs.ListFacts.{consumes_kept}
use Rattle.span_io.specs.Causes.{Rose}
use Rattle.input_lines.specs.Lines.{lines_of}
use Rattle.input_lines.specs.Reading.{IsLong, SourceView, GivesBytes}
use Rattle.input_lines.specs.Splits.{all_begun}
use Rattle.input_lines.specs.FirstLine.{first_line, long_first}
use Rattle.input_lines.specs.Devices.{SinkView, WritesAll, told_left, nothing_left, gave_both, all_all, all_front}
use Rattle.judge.specs.Rows.{limit, AreRows, AreFrontRows, AreCutShort, last_line, all_lines}
use Rattle.judge.specs.Session.{Stand, Took, CaughtUp, EndsAt, Stops, StopsRound, Concludes, Runs, with_more, lines_from}
use Rattle.program_words.specs.declared.status.Status.{Status}
use Rattle.program_words.specs.declared.status.Status.TheVariants.{Done, Usage, Unreadable, Refused, ReadFault, WriteFault, NoMemory, TooLong}
use Rattle.judge.proofs.Table.{rows_both, all_begin, all_at_end, long_begins}
use Rattle.judge.proofs.Taking.{stops_later}

module _ (from to : Stand) (more : List ℕ) (now : SourceView) (lines : List (List ℕ)) (text : List ℕ) (took : Took (with_more from more) to lines text) where
  -- lines that were taken are the first
  pub are_front : AreFrontRows from.number (lines_from from more now) text
  are_front = record {
    front = lines;
    others = all_lines (to.rest ++ told_left now.left);
    splits = all_begin (from.rest ++ more) lines to.rest (told_left now.left) took.begins;
    rows = took.rows;
  }

  -- and the next one is too long
  pub are_cut_short : IsLong limit to.rest → AreCutShort from.number (lines_from from more now) text
  are_cut_short long =
      let too_long = long_first limit to.rest (told_left now.left) long in
      let rest = long_begins (to.rest ++ told_left now.left) too_long in record {
        front = lines;
        long = first_line (to.rest ++ told_left now.left);
        others = rest.0;
        splits = all_begin (from.rest ++ more) lines to.rest (told_left now.left) took.begins ∙ ap (λ ls. lines ++ ls) rest.1;
        too_long = too_long;
        rows = took.rows;
      }

-- all whole lines were taken
pub are_rows : (from to : Stand) (more text : List ℕ) → CaughtUp (with_more from more) to text → AreRows from.number (lines_of (from.rest ++ more)) text
are_rows from to more text c = subst (λ ls. AreRows from.number ls text) (sym (all_begun (from.rest ++ more) c.lines to.rest c.took.begins c.unbroken).0) c.took.rows

-- a run that is stopped
pub runs_stopped : (status : Status) (from : Stand) (more : List ℕ) (a b : SourceView) (old new : SinkView) → GivesBytes a b more → (to : Stand) (lines : List (List ℕ)) (text : List ℕ) → Took (with_more from more) to lines text
    → EndsAt status to.rest old new text → Runs from a b old new status
runs_stopped TooLong from more a b old new gave to lines text t e = (more, text, gave, inl (are_cut_short from to more b lines text t e.0), e.1)
runs_stopped NoMemory from more a b old new gave to lines text t e = (more, text, gave, are_front from to more b lines text t, e)
runs_stopped WriteFault from more a b old new gave to lines text t e = (more, text, gave, are_front from to more b lines text t, e)
runs_stopped Done from more a b old new gave to lines text t e = absurd e
runs_stopped Usage from more a b old new gave to lines text t e = absurd e
runs_stopped Unreadable from more a b old new gave to lines text t e = absurd e
runs_stopped Refused from more a b old new gave to lines text t e = absurd e
runs_stopped ReadFault from more a b old new gave to lines text t e = absurd e

-- a round that stops it
module _ (from mid : Stand) (first : List ℕ) (text : List ℕ) (a b c : SourceView) (old now new : SinkView) where
  later : (status : Status) → GivesBytes a b first → CaughtUp (with_more from first) mid text → WritesAll old now text → (more : List ℕ) → GivesBytes b c more → Stops status (with_more mid more) now new → Runs from a c old new status
  later status gave caught wrote more g s =
      let t = stops_later status from mid first more caught.lines text old now new caught.took wrote s in
      runs_stopped status from (first ++ more) a c old new (gave_both a b c first more gave g) t.0 t.1 t.2 t.3 t.4

  pub runs_in_round : (status : Status) → GivesBytes a b first → CaughtUp (with_more from first) mid text → WritesAll old now text → StopsRound status mid b c now new → Runs from a c old new status
  runs_in_round ReadFault gave caught wrote s = (
    first,
    text,
    consumes_kept a.left b.left c.left first gave.left s.0.left,
    subst (λ n. Rose n c.faults) gave.faults s.1,
    are_rows from mid first text caught,
    subst (λ k. WritesAll old k text) (sym s.2) wrote,
  )
  runs_in_round TooLong gave caught wrote (more, g, s) = later TooLong gave caught wrote more g s
  runs_in_round NoMemory gave caught wrote (more, g, s) = later NoMemory gave caught wrote more g s
  runs_in_round WriteFault gave caught wrote (more, g, s) = later WriteFault gave caught wrote more g s
  runs_in_round Done gave caught wrote (more, g, s) = later Done gave caught wrote more g s
  runs_in_round Usage gave caught wrote (more, g, s) = later Usage gave caught wrote more g s
  runs_in_round Unreadable gave caught wrote (more, g, s) = later Unreadable gave caught wrote more g s
  runs_in_round Refused gave caught wrote (more, g, s) = later Refused gave caught wrote more g s

-- all lines, the input being over
pub are_all_rows : (from mid : Stand) (more text last : List ℕ) (now : SourceView) → IsAtEnd now.left → CaughtUp (with_more from more) mid text → AreRows mid.number (last_line mid.rest) last
    → AreRows from.number (lines_from from more now) (text ++ last)
are_all_rows from mid more text last now over c rows =
    let is : lines_from from more now ≡ c.lines ++ last_line mid.rest =
    ap (λ x. all_lines ((from.rest ++ more) ++ x)) (nothing_left now.left over) ∙ ap all_lines (append-nil (from.rest ++ more)) ∙ all_at_end (from.rest ++ more) c.lines mid.rest c.took.begins c.unbroken in
    subst (λ ls. AreRows from.number ls (text ++ last)) (sym is) (rows_both from.number c.lines (last_line mid.rest) text last c.took.rows (subst (λ n. AreRows n (last_line mid.rest) last) c.took.number rows))

all_of_them : (n : ℕ) (lines : List (List ℕ)) (text : List ℕ) → AreRows n lines text → AreFrontRows n lines text
all_of_them n lines text h = record { front = lines; others = []; splits = sym (append-nil lines); rows = h }

-- a run whose input is over
pub runs_over : (from mid : Stand) (more text : List ℕ) (a b : SourceView) (old now new : SinkView) (status : Status) → GivesBytes a b more → IsAtEnd b.left → CaughtUp (with_more from more) mid text → WritesAll old now text
    → Concludes mid.number mid.rest now new status → Runs from a b old new status
runs_over from mid more text a b old now new Done gave over c wrote (last, rows, s) = (more, text ++ last, gave, over, are_all_rows from mid more text last b over c rows, all_all old now new text last wrote s)
runs_over from mid more text a b old now new WriteFault gave over c wrote (last, rows, s) =
    (more, text ++ last, gave, all_of_them from.number (lines_from from more b) (text ++ last) (are_all_rows from mid more text last b over c rows), all_front old now new text last wrote s)
runs_over from mid more text a b old now new NoMemory gave over c wrote s = (more, text, gave, are_front from mid more b c.lines text c.took, subst (λ k. WritesAll old k text) (sym s) wrote)
runs_over from mid more text a b old now new TooLong gave over c wrote s = absurd s
runs_over from mid more text a b old now new Usage gave over c wrote s = absurd s
runs_over from mid more text a b old now new Unreadable gave over c wrote s = absurd s
runs_over from mid more text a b old now new Refused gave over c wrote s = absurd s
runs_over from mid more text a b old now new ReadFault gave over c wrote s = absurd s

-- a run that reads no more, having read so much
pub runs_full : (from mid : Stand) (more text : List ℕ) (a b : SourceView) (old new : SinkView) → GivesBytes a b more → CaughtUp (with_more from more) mid text → WritesAll old new text → 2 ^ 64 - 1 ≤ length more → Runs from a b old new TooLong
runs_full from mid more text a b old new gave c wrote many = (more, text, gave, inr (many, are_front from mid more b c.lines text c.took), wrote)
