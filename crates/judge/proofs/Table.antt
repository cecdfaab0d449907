-- Rows of lines, one after another.
use Rattle.std.proofs.Common.{◌≡◌, ℕ, ◌<◌, ◌≤◌, List, [], ◌∷◌, ◌++◌, length, append_assoc, append-nil, arith, refl, sym, ap, ◌∙◌, subst, ⊎_elim}
use Rattle.input_lines.specs.Lines.{IsUnbroken, lines_of, rest_of}
use Rattle.input_lines.specs.Laws.{Begins}
use Rattle.input_lines.specs.Splits.{begin, lines_begun, rest_begun, all_begun, read_more}
use Rattle.input_lines.specs.Numbers.{next_number, number_behind}
use Rattle.input_lines.specs.FirstLine.{first_line, first_line_is}
use Rattle.judge.specs.Rows.{limit, IsRowsOf, AreRows, last_line, all_lines}

pub rows_both : (n : ℕ) (lines more : List (List ℕ)) (s t : List ℕ) → AreRows n lines s → AreRows (number_behind n lines) more t → AreRows n (lines ++ more) (s ++ t)
rows_both n [] more s t a b = subst (λ x. AreRows n more (x ++ t)) (sym a) b
rows_both n (line ∷ lines) more s t a b = (a.0, a.1, a.2 ++ t, a.3, rows_both (next_number n) lines more a.2 t a.4 b, ap (λ x. x ++ t) a.5 ∙ append_assoc a.1 a.2 t)

pub one_row : (n : ℕ) (line text : List ℕ) → length line ≤ limit → IsRowsOf n line text → AreRows n (line ∷ []) text
one_row n line text short is = (short, text, [], is, refl, sym (append-nil text))

-- ---- all lines

-- lines that bytes begin with are the first of all lines, whatever comes behind
pub all_begin : (bytes : List ℕ) (lines : List (List ℕ)) (rest more : List ℕ) → Begins bytes lines rest → all_lines (bytes ++ more) ≡ lines ++ all_lines (rest ++ more)
all_begin bytes lines rest more b =
    let c = read_more bytes lines rest more b in
    ap (λ ls. ls ++ last_line (rest_of (bytes ++ more))) (lines_begun (bytes ++ more) lines (rest ++ more) c)
    ∙ append_assoc lines (lines_of (rest ++ more)) (last_line (rest_of (bytes ++ more)))
    ∙ ap (λ r. lines ++ (lines_of (rest ++ more) ++ last_line r)) (rest_begun (bytes ++ more) lines (rest ++ more) c)

-- bytes without a line feed are one line, or none
pub unbroken_lines : (bytes : List ℕ) → IsUnbroken bytes → all_lines bytes ≡ last_line bytes
unbroken_lines bytes unbroken =
    let none = all_begun bytes [] bytes (begin bytes) unbroken in
    ap (λ ls. ls ++ last_line (rest_of bytes)) none.0 ∙ ap last_line none.1

-- and those behind which nothing comes
pub all_at_end : (bytes : List ℕ) (lines : List (List ℕ)) (rest : List ℕ) → Begins bytes lines rest → IsUnbroken rest → all_lines bytes ≡ lines ++ last_line rest
all_at_end bytes lines rest b unbroken =
    ap all_lines (sym (append-nil bytes)) ∙ all_begin bytes lines rest [] b ∙ ap (λ r. lines ++ all_lines r) (append-nil rest) ∙ ap (λ ls. lines ++ ls) (unbroken_lines rest unbroken)

long_last : (bytes : List ℕ) → limit < length bytes → last_line bytes ≡ bytes ∷ []
long_last [] h = absurd (omega (arith, h))
long_last (c ∷ bytes) h = refl

-- a first line that is too long is the first of all
pub long_begins : (bytes : List ℕ) → limit < length (first_line bytes) → (others : List (List ℕ)) × (all_lines bytes ≡ first_line bytes ∷ others)
long_begins bytes long = ⊎_elim
    (λ none. ([], ap (λ ls. ls ++ last_line (rest_of bytes)) none.0 ∙ ap last_line none.1 ∙ long_last (first_line bytes) long))
    (λ some. (some.0 ++ last_line (rest_of bytes), ap (λ ls. ls ++ last_line (rest_of bytes)) some.1))
    (first_line_is bytes)
