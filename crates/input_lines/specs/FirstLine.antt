-- The first line of bytes, and what stands behind it.
use Rattle.std.proofs.Common.{◌≡◌, ℕ, zero, suc, ◌+◌, ◌<◌, ◌≤◌, true, false, cond, List, [], ◌∷◌, ◌++◌, length, take, arith, refl, sym, ap, ◌∙◌, ne_eqb, inl, inr, ⊎_elim}
use Rattle.std.specs.Prelude.{◌⊎◌, ◌≢◌, ◌==◌, ◌||◌}
use Rattle.std.proofs.lemmas.Bool.{cases_Bool}
use Rattle.std.proofs.lemmas.List.Elements.{All-head, All-tail}
use Rattle.input_lines.specs.Lines.{line_feed, IsUnbroken, before_first, lines_of, has_feed, rest_of}
use Rattle.input_lines.specs.Reading.{IsLong}

-- what stands before the first line feed; all, where there is none
abbrev pub first_line : List ℕ → List ℕ
first_line [] = []
first_line (c ∷ bytes) = cond (c == line_feed) [] (c ∷ first_line bytes)

-- what stands behind the first line feed; nothing, where there is none
abbrev pub behind_first : List ℕ → List ℕ
behind_first [] = []
behind_first (c ∷ bytes) = cond (c == line_feed) bytes (behind_first bytes)

-- ---- lemmas

pub head_apart : (c : ℕ) (bytes : List ℕ) → IsUnbroken (c ∷ bytes) → (c == line_feed) ≡ false
head_apart c bytes h = ne_eqb c line_feed (All-head (λ x. x ≢ line_feed) c bytes h)

-- an unbroken line and its line feed
pub first_of : (line more : List ℕ) → IsUnbroken line → first_line (line ++ line_feed ∷ more) ≡ line
first_of [] more h = refl
first_of (c ∷ line) more h =
    ap (λ b. cond b [] (c ∷ first_line (line ++ line_feed ∷ more))) (head_apart c line h) ∙ ap (λ l. c ∷ l) (first_of line more (All-tail (λ x. x ≢ line_feed) c line h))

pub behind_of : (line more : List ℕ) → IsUnbroken line → behind_first (line ++ line_feed ∷ more) ≡ more
behind_of [] more h = refl
behind_of (c ∷ line) more h =
    ap (λ b. cond b (line ++ line_feed ∷ more) (behind_first (line ++ line_feed ∷ more))) (head_apart c line h) ∙ behind_of line more (All-tail (λ x. x ≢ line_feed) c line h)

-- bytes without a line feed
pub first_is_all : (bytes : List ℕ) → IsUnbroken bytes → first_line bytes ≡ bytes
first_is_all [] h = refl
first_is_all (c ∷ bytes) h = ap (λ b. cond b [] (c ∷ first_line bytes)) (head_apart c bytes h) ∙ ap (λ l. c ∷ l) (first_is_all bytes (All-tail (λ x. x ≢ line_feed) c bytes h))

pub nothing_behind : (bytes : List ℕ) → IsUnbroken bytes → behind_first bytes ≡ []
nothing_behind [] h = refl
nothing_behind (c ∷ bytes) h = ap (λ b. cond b bytes (behind_first bytes)) (head_apart c bytes h) ∙ nothing_behind bytes (All-tail (λ x. x ≢ line_feed) c bytes h)

-- where the first n bytes have no line feed, the first line has as many
long_front : (n : ℕ) (bytes more : List ℕ) → n ≤ length bytes → IsUnbroken (take n bytes) → n ≤ length (first_line (bytes ++ more))
long_front zero bytes more few h = omega arith
long_front (suc n) [] more few h = absurd (omega arith)
long_front (suc n) (c ∷ bytes) more few h =
    let later = long_front n bytes more (omega arith) (All-tail (λ x. x ≢ line_feed) c (take n bytes) h) in
    let is : first_line (c ∷ (bytes ++ more)) ≡ c ∷ first_line (bytes ++ more) = ap (λ b. cond b [] (c ∷ first_line (bytes ++ more))) (head_apart c (take n bytes) h) in
    omega (arith, later, ap length is)

-- a line that is too long stays so, whatever comes behind it
pub long_first : (limit : ℕ) (bytes more : List ℕ) → IsLong limit bytes → limit < length (first_line (bytes ++ more))
long_first limit bytes more h = omega (arith, long_front (limit + 1) bytes more (omega (arith, h.more)) h.unbroken)

all_rest : (bytes : List ℕ) → has_feed bytes ≡ false → rest_of bytes ≡ bytes
all_rest [] h = refl
all_rest (c ∷ bytes) h = ap (λ b. cond b (rest_of bytes) (c ∷ bytes)) h

-- without a line feed there is no line, and the rest is the first line
no_feed_first : (bytes : List ℕ) → has_feed bytes ≡ false → (lines_of bytes ≡ []) × (rest_of bytes ≡ first_line bytes)
no_feed_first [] h = (refl, refl)
no_feed_first (c ∷ bytes) h =
    elim (cases_Bool (c == line_feed)) [
      | inl is ↦ absurd (let other : (c == line_feed || has_feed bytes) ≡ true = ap (λ b. b || has_feed bytes) is in cc)
      | inr not ↦
          let none : has_feed bytes ≡ false = sym (ap (λ b. b || has_feed bytes) not) ∙ h in
          let later = no_feed_first bytes none in (
            ap (λ b. cond b ([] ∷ lines_of bytes) (before_first c (lines_of bytes))) not ∙ ap (before_first c) later.0,
            ap (λ b. cond b (rest_of bytes) (c ∷ bytes)) h ∙ ap (λ l. c ∷ l) (sym (all_rest bytes none) ∙ later.1) ∙ sym (ap (λ b. cond b [] (c ∷ first_line bytes)) not),
          )
    ]

-- with one the first line is the first of the lines
feed_first : (bytes : List ℕ) → has_feed bytes ≡ true → (lines : List (List ℕ)) × (lines_of bytes ≡ first_line bytes ∷ lines)
feed_first [] h = absurd cc
feed_first (c ∷ bytes) h =
    elim (cases_Bool (c == line_feed)) [
      | inl is ↦ (
        lines_of bytes,
        ap (λ b. cond b ([] ∷ lines_of bytes) (before_first c (lines_of bytes))) is ∙ ap (λ l. l ∷ lines_of bytes) (sym (ap (λ b. cond b [] (c ∷ first_line bytes)) is)),
      )
      | inr not ↦
          let later = feed_first bytes (sym (ap (λ b. b || has_feed bytes) not) ∙ h) in (
            later.0,
            ap (λ b. cond b ([] ∷ lines_of bytes) (before_first c (lines_of bytes))) not ∙ ap (before_first c) later.1 ∙ ap (λ l. l ∷ later.0) (sym (ap (λ b. cond b [] (c ∷ first_line bytes)) not)),
          )
    ]

-- the first line is the first of the lines; where there is none, it is the rest
pub first_line_is : (bytes : List ℕ) → ((lines_of bytes ≡ []) × (rest_of bytes ≡ first_line bytes)) ⊎ ((lines : List (List ℕ)) × (lines_of bytes ≡ first_line bytes ∷ lines))
first_line_is bytes = ⊎_elim (λ some. inr (feed_first bytes some)) (λ none. inl (no_feed_first bytes none)) (cases_Bool (has_feed bytes))
