-- How bytes come to be split into their lines: lemmas for whoever takes one line after another.
use Rattle.std.proofs.Common.{◌≡◌, ℕ, true, false, cond, List, [], ◌∷◌, ◌++◌, append_assoc, append-nil, refl, sym, ap, ◌∙◌, subst, eqb-true, ne_eqb, inl, inr}
use Rattle.std.specs.Prelude.{All, flat_map, ◌≢◌, ◌||◌, ◌==◌}
use Rattle.std.proofs.lemmas.Bool.{cases_Bool, eqb-false}
use Rattle.std.proofs.lemmas.List.Concat.{flat_map-append}
use Rattle.std.proofs.lemmas.List.Elements.{All-nil, All-cons, All-head, All-tail, All-push, All-append}
use Rattle.input_lines.specs.Lines.{line_feed, with_feed, IsUnbroken, before_first, lines_of, has_feed, rest_of}
use Rattle.input_lines.specs.Laws.{Begins, SplitLaw, FrontLaw}

-- ---- one line, or none

lines_behind : (line more : List ℕ) → IsUnbroken line → lines_of (line ++ line_feed ∷ more) ≡ line ∷ lines_of more
lines_behind [] more h = refl
lines_behind (c ∷ line) more h =
    let later = lines_of (line ++ line_feed ∷ more) in
    ap (λ b. cond b ([] ∷ later) (before_first c later)) (ne_eqb c line_feed (All-head (λ x. x ≢ line_feed) c line h))
    ∙ ap (before_first c) (lines_behind line more (All-tail (λ x. x ≢ line_feed) c line h))

feed_behind : (line more : List ℕ) → has_feed (line ++ line_feed ∷ more) ≡ true
feed_behind [] more = refl
feed_behind (c ∷ line) more = elim (c == line_feed) as (λ b. (b || has_feed (line ++ line_feed ∷ more)) ≡ true) [ true ↦ refl | false ↦ feed_behind line more ]

rest_behind : (line more : List ℕ) → rest_of (line ++ line_feed ∷ more) ≡ rest_of more
rest_behind [] more = refl
rest_behind (c ∷ line) more =
    let later = line ++ line_feed ∷ more in
    ap (λ b. cond b (rest_of later) (c ∷ later)) (feed_behind (c ∷ line) more) ∙ rest_behind line more

no_feed : (bytes : List ℕ) → IsUnbroken bytes → has_feed bytes ≡ false
no_feed [] h = refl
no_feed (c ∷ bytes) h =
    ap (λ b. b || has_feed bytes) (ne_eqb c line_feed (All-head (λ x. x ≢ line_feed) c bytes h)) ∙ no_feed bytes (All-tail (λ x. x ≢ line_feed) c bytes h)

no_lines : (bytes : List ℕ) → IsUnbroken bytes → lines_of bytes ≡ []
no_lines [] h = refl
no_lines (c ∷ bytes) h =
    let later = lines_of bytes in
    ap (λ b. cond b ([] ∷ later) (before_first c later)) (ne_eqb c line_feed (All-head (λ x. x ≢ line_feed) c bytes h)) ∙ ap (before_first c) (no_lines bytes (All-tail (λ x. x ≢ line_feed) c bytes h))

all_rest : (bytes : List ℕ) → IsUnbroken bytes → rest_of bytes ≡ bytes
all_rest [] h = refl
all_rest (c ∷ bytes) h = ap (λ b. cond b (rest_of bytes) (c ∷ bytes)) (no_feed (c ∷ bytes) h)

-- ---- lines, one after another

regroup : (line : List ℕ) (lines : List (List ℕ)) (rest : List ℕ) → flat_map with_feed (line ∷ lines) ++ rest ≡ line ++ line_feed ∷ (flat_map with_feed lines ++ rest)
regroup line lines rest = append_assoc (with_feed line) (flat_map with_feed lines) rest ∙ append_assoc line (line_feed ∷ []) (flat_map with_feed lines ++ rest)

begun_lines : (lines : List (List ℕ)) (rest : List ℕ) → All IsUnbroken lines → lines_of (flat_map with_feed lines ++ rest) ≡ lines ++ lines_of rest
begun_lines [] rest h = refl
begun_lines (line ∷ lines) rest h =
    ap lines_of (regroup line lines rest) ∙ lines_behind line (flat_map with_feed lines ++ rest) (All-head IsUnbroken line lines h)
    ∙ ap (λ later. line ∷ later) (begun_lines lines rest (All-tail IsUnbroken line lines h))

begun_rest : (lines : List (List ℕ)) (rest : List ℕ) → rest_of (flat_map with_feed lines ++ rest) ≡ rest_of rest
begun_rest [] rest = refl
begun_rest (line ∷ lines) rest = ap rest_of (regroup line lines rest) ∙ rest_behind line (flat_map with_feed lines ++ rest) ∙ begun_rest lines rest

-- the lines that bytes begin with are the first of theirs, and the others are those of the rest
pub lines_begun : (bytes : List ℕ) (lines : List (List ℕ)) (rest : List ℕ) → Begins bytes lines rest → lines_of bytes ≡ lines ++ lines_of rest
lines_begun bytes lines rest b = ap lines_of b.whole ∙ begun_lines lines rest b.each

-- what stands behind the last line feed of the rest stands behind that of all
pub rest_begun : (bytes : List ℕ) (lines : List (List ℕ)) (rest : List ℕ) → Begins bytes lines rest → rest_of bytes ≡ rest_of rest
rest_begun bytes lines rest b = ap rest_of b.whole ∙ begun_rest lines rest

-- where the rest is unbroken, these are all of the lines
pub all_begun : (bytes : List ℕ) (lines : List (List ℕ)) (rest : List ℕ) → Begins bytes lines rest → IsUnbroken rest → (lines_of bytes ≡ lines) × (rest_of bytes ≡ rest)
all_begun bytes lines rest b h =
    (lines_begun bytes lines rest b ∙ ap (λ later. lines ++ later) (no_lines rest h) ∙ append-nil lines, rest_begun bytes lines rest b ∙ all_rest rest h)

-- nothing was taken yet
pub begin : (bytes : List ℕ) → Begins bytes [] bytes
begin bytes = record { whole = refl; each = All-nil IsUnbroken }

-- one more line is taken
pub take_line : (bytes : List ℕ) (lines : List (List ℕ)) (old line rest : List ℕ) → Begins bytes lines old → old ≡ line ++ line_feed ∷ rest → IsUnbroken line → Begins bytes (lines ++ line ∷ []) rest
take_line bytes lines old line rest b e h = record {
  whole = b.whole ∙ ap (λ r. flat_map with_feed lines ++ r) (e ∙ sym (append_assoc line (line_feed ∷ []) rest)) ∙ sym (append_assoc (flat_map with_feed lines) (with_feed line) rest)
      ∙ ap (λ front. front ++ rest) (ap (λ last. flat_map with_feed lines ++ last) (sym (append-nil (with_feed line))) ∙ sym (flat_map-append with_feed lines (line ∷ [])));
  each = All-push IsUnbroken lines line b.each h;
}

-- more bytes come
pub read_more : (bytes : List ℕ) (lines : List (List ℕ)) (rest more : List ℕ) → Begins bytes lines rest → Begins (bytes ++ more) lines (rest ++ more)
read_more bytes lines rest more b = record { whole = ap (λ front. front ++ more) b.whole ∙ append_assoc (flat_map with_feed lines) rest more; each = b.each }

-- lines behind lines
pub begins_both : (bytes more last : List ℕ) (lines others : List (List ℕ)) (rest : List ℕ) → Begins bytes lines rest → Begins (rest ++ more) others last → Begins (bytes ++ more) (lines ++ others) last
begins_both bytes more last lines others rest a b = record {
  whole = ap (λ x. x ++ more) a.whole ∙ append_assoc (flat_map with_feed lines) rest more ∙ ap (λ x. flat_map with_feed lines ++ x) b.whole
      ∙ sym (append_assoc (flat_map with_feed lines) (flat_map with_feed others) last) ∙ ap (λ x. x ++ last) (sym (flat_map-append with_feed lines others));
  each = All-append IsUnbroken lines others a.each b.each;
}

pub begins_same : (a b : List ℕ) (lines : List (List ℕ)) (rest : List ℕ) → a ≡ b → Begins a lines rest → Begins b lines rest
begins_same a b lines rest e h = subst (λ x. Begins x lines rest) e h

-- ---- the laws

-- bytes that begin with lines do so with one byte more before them
one_more : (c : ℕ) (bytes : List ℕ) (lines : List (List ℕ)) (rest : List ℕ) → c ≢ line_feed → Begins bytes lines rest → IsUnbroken rest → (others : List (List ℕ)) × (last : List ℕ) × Begins (c ∷ bytes) others last × IsUnbroken last
one_more c bytes [] rest h b u = ([], c ∷ rest, record { whole = ap (λ later. c ∷ later) b.whole; each = All-nil IsUnbroken }, All-cons (λ x. x ≢ line_feed) c rest h u)
one_more c bytes (line ∷ lines) rest h b u = (
  (c ∷ line) ∷ lines,
  rest,
  record { whole = ap (λ later. c ∷ later) b.whole; each = All-cons IsUnbroken (c ∷ line) lines (All-cons (λ x. x ≢ line_feed) c line h (All-head IsUnbroken line lines b.each)) (All-tail IsUnbroken line lines b.each) },
  u,
)

some_split : (bytes : List ℕ) → (lines : List (List ℕ)) × (rest : List ℕ) × Begins bytes lines rest × IsUnbroken rest
some_split [] = ([], [], begin [], All-nil (λ x. x ≢ line_feed))
some_split (c ∷ bytes) =
    let s = some_split bytes in
    elim (cases_Bool (c == line_feed)) [
      | inl is ↦ ([] ∷ s.0, s.1, record { whole = ap (λ x. x ∷ bytes) (eqb-true c line_feed is) ∙ ap (λ later. line_feed ∷ later) s.2.whole; each = All-cons IsUnbroken [] s.0 (All-nil (λ x. x ≢ line_feed)) s.2.each }, s.3)
      | inr not ↦ one_more c bytes s.0 s.1 (eqb-false c line_feed not) s.2 s.3
    ]

splits : (bytes : List ℕ) → Begins bytes (lines_of bytes) (rest_of bytes) × IsUnbroken (rest_of bytes)
splits bytes =
    let s = some_split bytes in
    let all = all_begun bytes s.0 s.1 s.2 s.3 in
    (subst (λ lines. Begins bytes lines (rest_of bytes)) (sym all.0) (subst (λ rest. Begins bytes s.0 rest) (sym all.1) s.2), subst IsUnbroken (sym all.1) s.3)

pub split_law : SplitLaw
split_law = record { splits = λ bytes. (splits bytes).0; unbroken = λ bytes. (splits bytes).1; only = all_begun }

pub front_law : FrontLaw
front_law = record {
  lines = λ front more. lines_begun (front ++ more) (lines_of front) (rest_of front ++ more) (read_more front (lines_of front) (rest_of front) more (splits front).0);
  rest = λ front more. rest_begun (front ++ more) (lines_of front) (rest_of front ++ more) (read_more front (lines_of front) (rest_of front) more (splits front).0);
}
