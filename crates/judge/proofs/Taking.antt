-- Lines that are taken one after another.
use Rattle.std.proofs.Common.{◌≡◌, ℕ, ◌<◌, ◌≤◌, List, [], ◌∷◌, ◌++◌, length, append_assoc, append-nil, arith, refl, sym, ap, ◌∙◌, subst, Err}
use Rattle.std.specs.Prelude.{◌≢◌}
use Rattle.std.proofs.lemmas.List.Elements.{All-nil}
use Rattle.input_lines.specs.Lines.{line_feed, IsUnbroken}
use Rattle.input_lines.specs.Laws.{Begins}
use Rattle.input_lines.specs.Splits.{begin, take_line, begins_both}
use Rattle.input_lines.specs.Numbers.{next_number, number_behind, number_behind_both}
use Rattle.input_lines.specs.Reading.{LinesView, SourceView, GivesBytes, Reads}
use Rattle.input_lines.specs.Devices.{SinkView, WritesAll, gave_nothing, wrote_nothing, all_all, all_front}
use Rattle.input_lines.specs.declared.lines.LineError.{LineError}
use Rattle.input_lines.specs.declared.lines.LineError.TheVariants as lines
use Rattle.judge.specs.Rows.{limit, last_line, IsRowsOf, AreRows}
use Rattle.judge.specs.Writing.{WritesRows}
use Rattle.judge.specs.declared.bench.RowError.{RowError}
use Rattle.judge.specs.declared.bench.RowError.TheVariants as rows
use Rattle.judge.specs.Session.{Stand, Took, CaughtUp, EndsAt, Stops, StopsRound, Concludes, with_more, line_status, row_status}
use Rattle.program_words.specs.declared.status.Status.{Status}
use Rattle.program_words.specs.declared.status.Status.TheVariants.{Done, Usage, Unreadable, Refused, ReadFault, WriteFault, NoMemory, TooLong}
use Rattle.judge.proofs.Table.{rows_both, one_row}

pub took_nothing : (s : Stand) → Took s s [] []
took_nothing s = record { begins = begin s.rest; rows = refl; number = refl }

-- one more line
pub took_line : (from to : Stand) (lines : List (List ℕ)) (text line rest more : List ℕ) (number : ℕ) → Took from to lines text → to.rest ≡ line ++ line_feed ∷ rest → IsUnbroken line
    → length line ≤ limit → IsRowsOf to.number line more → number ≡ next_number to.number → Took from (record { number = number; rest = rest }) (lines ++ line ∷ []) (text ++ more)
took_line from to lines text line rest more number t splits unbroken short is next = record {
  begins = take_line from.rest lines to.rest line rest t.begins splits unbroken;
  rows = rows_both from.number lines (line ∷ []) text more t.rows (one_row (number_behind from.number lines) line more short (subst (λ n. IsRowsOf n line more) t.number is));
  number = next ∙ ap next_number t.number ∙ sym (number_behind_both from.number lines (line ∷ []));
}

-- more lines, of more bytes
pub took_more : (from mid to : Stand) (first second : List ℕ) (lines others : List (List ℕ)) (text more : List ℕ) → Took (with_more from first) mid lines text → Took (with_more mid second) to others more
    → Took (with_more from (first ++ second)) to (lines ++ others) (text ++ more)
took_more from mid to first second lines others text more a b = record {
  begins = subst (λ x. Begins x (lines ++ others) to.rest) (append_assoc from.rest first second) (begins_both (from.rest ++ first) second to.rest lines others mid.rest a.begins b.begins);
  rows = rows_both from.number lines others text more a.rows (subst (λ n. AreRows n others more) a.number b.rows);
  number = b.number ∙ ap (λ n. number_behind n others) a.number ∙ sym (number_behind_both from.number lines others);
}

pub caught_up_more : (from mid to : Stand) (first second text more : List ℕ) → CaughtUp (with_more from first) mid text → CaughtUp (with_more mid second) to more → CaughtUp (with_more from (first ++ second)) to (text ++ more)
caught_up_more from mid to first second text more a b = record {
  lines = a.lines ++ b.lines;
  took = took_more from mid to first second a.lines b.lines text more a.took b.took;
  unbroken = b.unbroken;
  short = b.short;
}

pub with_none : (from : Stand) → with_more from [] ≡ from
with_none from = ap (λ r. record from { rest = r }) (append-nil from.rest)

-- a text was written before
pub ends_later : (status : Status) (rest : List ℕ) (a b c : SinkView) (s t : List ℕ) → WritesAll a b s → EndsAt status rest b c t → EndsAt status rest a c (s ++ t)
ends_later TooLong rest a b c s t wrote e = (e.0, all_all a b c s t wrote e.1)
ends_later NoMemory rest a b c s t wrote e = all_all a b c s t wrote e
ends_later WriteFault rest a b c s t wrote e = all_front a b c s t wrote e
ends_later Done rest a b c s t wrote e = absurd e
ends_later Usage rest a b c s t wrote e = absurd e
ends_later Unreadable rest a b c s t wrote e = absurd e
ends_later Refused rest a b c s t wrote e = absurd e
ends_later ReadFault rest a b c s t wrote e = absurd e

-- a session that caught up is stopped later
pub stops_later : (status : Status) (from mid : Stand) (first second : List ℕ) (lines : List (List ℕ)) (text : List ℕ) (a b c : SinkView) → Took (with_more from first) mid lines text → WritesAll a b text
    → Stops status (with_more mid second) b c → Stops status (with_more from (first ++ second)) a c
stops_later status from mid first second lines text a b c t wrote (to, others, more, took, ends) =
    (to, lines ++ others, text ++ more, took_more from mid to first second lines others text more t took, ends_later status to.rest a b c text more wrote ends)

-- nothing was read, and nothing is there
pub caught_up_nothing : (s : Stand) → s.rest ≡ [] → CaughtUp (with_more s []) s []
caught_up_nothing s h = subst (λ (t : Stand). CaughtUp t s []) (sym (with_none s)) (record {
  lines = [];
  took = took_nothing s;
  unbroken = subst IsUnbroken (sym h) (All-nil (λ x. x ≢ line_feed));
  short = omega (arith, ap length h);
})

-- a line was taken whose rows were not written whole
pub stopped_at : (error : RowError) (from to : Stand) (lines : List (List ℕ)) (text line rest : List ℕ) (old mid new : SinkView) → Took from to lines text → to.rest ≡ line ++ line_feed ∷ rest → IsUnbroken line
    → length line ≤ limit → WritesAll old mid text → WritesRows mid new (IsRowsOf to.number line) (Err error) → Stops (row_status error) from old new
stopped_at rows.NoMemory from to lines text line rest old mid new t splits unbroken short wrote same = (to, lines, text, t, subst (λ k. WritesAll old k text) (sym same) wrote)
stopped_at rows.WriteFault from to lines text line rest old mid new t splits unbroken short wrote (more, is, front) = (
  record { number = next_number to.number; rest = rest },
  lines ++ line ∷ [],
  text ++ more,
  took_line from to lines text line rest more (next_number to.number) t splits unbroken short is refl,
  all_front old mid new text more wrote front,
)

-- nothing was read in a round
pub round_unread : (error : LineError) (old new : LinesView) (number : ℕ) (a b : SourceView) (k : SinkView) → Reads old new a b (Err error) → StopsRound (line_status error) (record { number = number; rest = old.rest }) a b k k
round_unread lines.Failed old new number a b k h = (h.0, h.1, refl)
round_unread lines.NoMemory old new number a b k h =
    let at : Stand = with_more (record { number = number; rest = old.rest }) [] in ([], subst (λ (s : SourceView). GivesBytes a s []) (sym h.1) (gave_nothing a), (at, [], [], took_nothing at, wrote_nothing k))
round_unread lines.TooLong old new number a b k h = absurd h

-- what stands behind the last line feed was judged
pub concluded : (number : ℕ) (rest line text : List ℕ) → line ≡ rest → 0 < length rest → length rest ≤ limit → IsRowsOf number line text → AreRows number (last_line rest) text
concluded number [] line text same some short is = absurd (omega (arith, some))
concluded number (c ∷ rest) line text same some short is = one_row number (c ∷ rest) text short (subst (λ l. IsRowsOf number l text) same is)

-- its rows were not written whole
pub concluded_so : (error : RowError) (number : ℕ) (rest line : List ℕ) (old new : SinkView) → line ≡ rest → 0 < length rest → length rest ≤ limit → WritesRows old new (IsRowsOf number line) (Err error) → Concludes number rest old new (row_status error)
concluded_so rows.NoMemory number rest line old new same some short h = h
concluded_so rows.WriteFault number rest line old new same some short (text, is, front) = (text, concluded number rest line text same some short is, front)
