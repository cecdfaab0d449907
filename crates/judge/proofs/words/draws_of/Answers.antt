use Rattle.std.proofs.Common.{◌<◌, ◌^◌, ◌∷◌, [], arith, refl, sym, ◌∙◌}
use Rattle.std.specs.Prelude.{codes, decimal, string_bytes}
use Rattle.std.proofs.lemmas.Fmt.{decimal_injective}
use Rattle.std.proofs.lemmas.Bool.Decides.{Decides-eqb}
use Rattle.std.proofs.lemmas.Slice.Eq.{slice_eq-Decides}
use Rattle.program_words.specs.Facts.{never}
use Rattle.judge.specs.Words.{texts}
use Rattle.judge.proofs.Calling.{word_of, four_words, four_are, third_of, fourth_of}
use Rattle.judge.proofs.words.draws_of.Goals as goal

pub returns-in_err-count-clause-none : goal.returns-in_err-count-clause-none
returns-in_err-count-clause-none c = λ e d calls.
    let range = calls.0 in
    let third = sym c.in_ok-first.ensures.found ∙ c.as_str-then-eq-2.ensures.value ∙ third_of c.args.words.now (codes "draw") (decimal d.seed) (decimal d.first) (decimal d.count ∷ []) c.index-words-2.result c.index-words-2.is calls.1 in
    let low : c.in_ok-first.first < 2 ^ 64 = omega (arith, c.in_ok-first.ensures.small) in
    let few : d.first < 2 ^ 64 = omega (arith, range.1) in
    let same = decimal_injective c.in_ok-first.first d.first low few third in
    c.in_err-count.ensures.none refl d.count (omega (arith, range.2, same)) (c.as_str-then-eq-3.ensures.value ∙ fourth_of c.args.words.now (codes "draw") (decimal d.seed) (decimal d.first) (decimal d.count) [] c.index-words-3.result c.index-words-3.is calls.1)

pub returns-then-eq-clause-found : goal.returns-then-eq-clause-found
returns-then-eq-clause-found c =
    let first = (slice_eq-Decides Decides-eqb _ _ _ c.eq.ensures).0 c.if-eq.true in (
      (omega (arith, c.in_ok-seed.ensures.small), omega (arith, c.in_ok-first.ensures.small), omega (arith, c.in_ok-count.ensures.small, c.in_ok-first.ensures.small)),
      four_are (texts c.args.words.now) (string_bytes c.index-words-0.result) (string_bytes c.index-words-1.result) (string_bytes c.index-words-2.result) (string_bytes c.index-words-3.result)
          (codes "draw") (decimal c.in_ok-seed.seed) (decimal c.in_ok-first.first) (decimal c.in_ok-count.count)
          (four_words c.args.words.now c.index-words-0.result c.index-words-1.result c.index-words-2.result c.index-words-3.result c.requires c.index-words-0.is c.index-words-1.is c.index-words-2.is c.index-words-3.is)
          (sym c.as_str.ensures.value ∙ first) (sym c.as_str-then-eq.ensures.value ∙ c.in_ok-seed.ensures.found) (sym c.as_str-then-eq-2.ensures.value ∙ c.in_ok-first.ensures.found) (sym c.as_str-then-eq-3.ensures.value ∙ c.in_ok-count.ensures.found),
    )

pub returns-clause-none : goal.returns-clause-none
returns-clause-none c = λ e d calls.
    never _ c.if-eq.false ((slice_eq-Decides Decides-eqb _ _ _ c.eq.ensures).1 (c.as_str.ensures.value ∙ word_of c.args.words.now (decimal d.seed ∷ decimal d.first ∷ decimal d.count ∷ []) c.index-words-0.result (codes "draw") c.index-words-0.is calls.1))
