use Rattle.std.proofs.Common.{◌∷◌, [], arith, sym, ◌∙◌}
use Rattle.std.specs.Prelude.{codes, decimal, string_bytes}
use Rattle.std.proofs.lemmas.Bool.Decides.{Decides-eqb}
use Rattle.std.proofs.lemmas.Slice.Eq.{slice_eq-Decides}
use Rattle.program_words.specs.Facts.{never}
use Rattle.judge.specs.Words.{texts}
use Rattle.judge.proofs.Calling.{word_of, three_words, three_are}
use Rattle.judge.proofs.words.draw_of.Goals as goal

pub returns-then-eq-clause-found : goal.returns-then-eq-clause-found
returns-then-eq-clause-found c =
    let first = (slice_eq-Decides Decides-eqb _ _ _ c.eq.ensures).0 c.if-eq.true in (
      (omega (arith, c.in_ok-seed.ensures.small), omega (arith, c.in_ok-index.ensures.small)),
      three_are (texts c.args.words.now) (string_bytes c.index-words-0.result) (string_bytes c.index-words-1.result) (string_bytes c.index-words-2.result) (codes "show") (decimal c.in_ok-seed.seed) (decimal c.in_ok-index.index)
          (three_words c.args.words.now c.index-words-0.result c.index-words-1.result c.index-words-2.result c.requires c.index-words-0.is c.index-words-1.is c.index-words-2.is)
          (sym c.as_str.ensures.value ∙ first) (sym c.as_str-then-eq.ensures.value ∙ c.in_ok-seed.ensures.found) (sym c.as_str-then-eq-2.ensures.value ∙ c.in_ok-index.ensures.found),
    )

pub returns-clause-none : goal.returns-clause-none
returns-clause-none c = λ e d calls.
    never _ c.if-eq.false ((slice_eq-Decides Decides-eqb _ _ _ c.eq.ensures).1 (c.as_str.ensures.value ∙ word_of c.args.words.now (decimal d.seed ∷ decimal d.index ∷ []) c.index-words-0.result (codes "show") c.index-words-0.is calls.1))
