use Rattle.std.proofs.Common.{◌≡◌, Bool, true, false, [], ◌++◌, arith, sym, ap, ◌∙◌, subst, Ok, Err}
use Rattle.std.specs.Prelude.{not}
use Rattle.input_lines.specs.Lines.{IsUnbroken}
use Rattle.input_lines.specs.Reading.{LinesView, SourceView, IsLong, ReadsLine}
use Rattle.input_lines.specs.declared.lines.LineError.{LineError}
use Rattle.input_lines.specs.declared.lines.LineError.TheVariants.{Failed, TooLong, NoMemory}
use Rattle.controller.specs.Input.{scenario_limit}
use Rattle.controller.specs.Session.{line_status}
use Rattle.controller.specs.First.{StopsFirst, ReadsFirst}

module _ (old new : LinesView) (a b : SourceView) (nothing : old.rest ≡ []) (limited : old.limit ≡ scenario_limit) where
  -- the first line was taken
  reads : (has_feed : Bool) → ReadsLine old new a b (Ok has_feed) → ReadsFirst a b (Ok (record { lines = new; ends_input = not has_feed }))
  reads true (bytes, gave, t) = (bytes, gave, record { is = ap (λ r. r ++ bytes) (sym nothing) ∙ t.splits; unbroken = t.unbroken; short = omega (arith, t.short, limited) })
  reads false (bytes, gave, over, line, none, unbroken, short) =
      (bytes, gave, record { is = (over, ap (λ r. r ++ bytes) (sym nothing) ∙ sym line, none); unbroken = unbroken; short = omega (arith, short, limited) })

  -- it was not
  stops : (error : LineError) → ReadsLine old new a b (Err error) → StopsFirst (line_status error) a b
  stops Failed (bytes, consumes, rose, unbroken, rest) = (bytes, consumes, subst IsUnbroken (rest ∙ ap (λ r. r ++ bytes) nothing) unbroken, rose)
  stops TooLong (bytes, gave, long, rest) = (bytes, gave, subst (λ n. IsLong n bytes) limited (subst (IsLong old.limit) (rest ∙ ap (λ r. r ++ bytes) nothing) long))
  stops NoMemory (bytes, gave, unbroken, rest) = gave.faults
