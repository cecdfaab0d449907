-- The options on the first line of an input, by what was read of it.
use Rattle.std.proofs.Common.{◌≡◌, ℕ, ◌≤◌, Bool, true, false, List, [], ◌∷◌, ◌++◌, length, append_assoc, append-nil, arith, refl, sym, ap, ◌∙◌, subst, Result, Ok, Err}
use Rattle.run_text.specs.PeriodText.{refused_text}
use Rattle.drawn_scenarios.specs.declared.options.Options.{Options}
use Rattle.option_reading.specs.Verdict.{IsUnreadable, IsRefusedText}
use Rattle.input_lines.specs.Lines.{line_feed, IsUnbroken}
use Rattle.input_lines.specs.FirstLine.{first_line, first_of, first_is_all, long_first}
use Rattle.input_lines.specs.Reading.{LinesView, SourceView, IsLong, ReadsLine}
use Rattle.input_lines.specs.Devices.{SinkView, IsInput, told_left, input_is, nothing_left}
use Rattle.input_lines.specs.declared.lines.LineError.{LineError}
use Rattle.input_lines.specs.declared.lines.LineError.TheVariants as lines
use Rattle.judge.specs.Rows.{limit}
use Rattle.judge.specs.Session.{line_status}
use Rattle.judge.specs.Options.{HasOptions, TellsOptions, StopsAtOptions, ReadsOptions}
use Rattle.program_words.specs.declared.status.Status.{Status}
use Rattle.program_words.specs.declared.status.Status.TheVariants.{Done, Usage, Unreadable, Refused, ReadFault, WriteFault, NoMemory, TooLong}

-- the line is the first of the whole input, and is not too long
pub record IsFirst (a b : SourceView) (line : List ℕ) : Type 0 where
  pub bytes : List ℕ
  pub input : IsInput a.left bytes
  pub first : first_line bytes ≡ line
  pub short : length line ≤ limit
  pub faults : b.faults ≡ a.faults

module _ (old new : LinesView) (a b : SourceView) (nothing : old.rest ≡ []) (limited : old.limit ≡ limit) where
  pub is_first : (r : Bool) → ReadsLine old new a b (Ok r) → IsFirst a b new.line
  is_first true (bytes, gave, t) =
      let is : bytes ≡ new.line ++ line_feed ∷ new.rest = ap (λ r. r ++ bytes) (sym nothing) ∙ t.splits in record {
        bytes = bytes ++ told_left b.left;
        input = input_is a.left b.left bytes gave.left;
        first = ap (λ x. first_line (x ++ told_left b.left)) is ∙ ap first_line (append_assoc new.line (line_feed ∷ new.rest) (told_left b.left)) ∙ first_of new.line (new.rest ++ told_left b.left) t.unbroken;
        short = omega (arith, t.short, limited);
        faults = gave.faults;
      }
  is_first false (bytes, gave, over, line, none, unbroken, short) =
      let is : bytes ≡ new.line = ap (λ r. r ++ bytes) (sym nothing) ∙ sym line in record {
        bytes = bytes ++ told_left b.left;
        input = input_is a.left b.left bytes gave.left;
        first = ap (λ x. first_line (bytes ++ x)) (nothing_left b.left over) ∙ ap first_line (append-nil bytes ∙ is) ∙ first_is_all new.line unbroken;
        short = omega (arith, short, limited);
        faults = gave.faults;
      }

  -- there is none
  pub no_first : (k : SinkView) (error : LineError) → ReadsLine old new a b (Err error) → StopsAtOptions (line_status error) (record { source = a; sink = k }) (record { source = b; sink = k })
  no_first k lines.TooLong (bytes, gave, long, rest) =
      let is : new.rest ≡ bytes = rest ∙ ap (λ r. r ++ bytes) nothing in
      let far : IsLong limit bytes = subst (λ n. IsLong n bytes) limited (subst (IsLong old.limit) is long) in
      (gave.faults, bytes ++ told_left b.left, input_is a.left b.left bytes gave.left, (long_first limit bytes (told_left b.left) far, refl), refl)
  no_first k lines.Failed (bytes, consumes, rose, unbroken, rest) = (rose, bytes, consumes, subst IsUnbroken (rest ∙ ap (λ r. r ++ bytes) nothing) unbroken, refl)
  no_first k lines.NoMemory (bytes, gave, unbroken, rest) = (gave.faults, refl)

-- what it tells
pub tells : (a b : SourceView) (line : List ℕ) (old new : SinkView) (result : Result Options Status) → IsFirst a b line → TellsOptions line old new result → ReadsOptions (record { source = a; sink = old }) (record { source = b; sink = new }) result
tells a b line old new (Ok o) f (has, same) = (f.faults, f.bytes, f.input, subst (λ l. HasOptions l o.choices) (sym f.first) has, same)
tells a b line old new (Err Unreadable) f (none, same) = (f.faults, f.bytes, f.input, (subst (λ l. length l ≤ limit) (sym f.first) f.short, subst IsUnreadable (sym f.first) none, refl), same)
tells a b line old new (Err Refused) f (rule, place, refused, wrote) = (
  f.faults,
  f.bytes,
  refused_text rule place,
  f.input,
  (subst (λ l. length l ≤ limit) (sym f.first) f.short, rule, place, subst (λ l. IsRefusedText l rule place) (sym f.first) refused, refl),
  wrote,
)
tells a b line old new (Err NoMemory) f same = (f.faults, same)
tells a b line old new (Err Done) f h = absurd h
tells a b line old new (Err Usage) f h = absurd h
tells a b line old new (Err ReadFault) f h = absurd h
tells a b line old new (Err WriteFault) f h = absurd h
tells a b line old new (Err TooLong) f h = absurd h
