-- Parts of a list of bytes, and where no line feed stands in them.
use Rattle.std.proofs.Common.{◌≡◌, ℕ, ◌+◌, ◌-◌, ◌<◌, ◌≤◌, List, ◌∷◌, ◌++◌, length, get_or, take, drop, add-one, arith, sym, ap, ◌∙◌, eq-eqb, ⊎_elim}
use Rattle.std.specs.Prelude.{◌≢◌}
use Rattle.std.specs.List.{between}
use Rattle.std.proofs.lemmas.Bool.{cases_lt}
use Rattle.std.proofs.lemmas.List.{drop-drop, drop_more, drop_at, take-take, take_at, length-take-le, take-append-le}
use Rattle.std.proofs.lemmas.List.Edits.{get_or-between, length-between}
use Rattle.std.proofs.lemmas.List.Elements.{All-from_get_or}
use Rattle.std.proofs.lemmas.Slice.{between_is}
use Rattle.std.proofs.Math.Seq.{take-add}
use Rattle.memchr.specs.Find.{Nowhere, Passes, is_byte}
use Rattle.input_lines.specs.Lines.{line_feed, IsUnbroken}
use Rattle.input_lines.specs.Buffer.{NoFeed}

-- a search of a part found none before its n-th byte
pub not_in_part : (xs : List ℕ) (from to n : ℕ) → from + n ≤ to → Nowhere (Passes (is_byte line_feed) (between from to xs)) 0 n → NoFeed xs from (from + n)
not_in_part xs from to n fits none k low high e =
    let place : from + (k - from) ≡ k = omega arith in
    let same : get_or (between from to xs) (k - from) 0 ≡ line_feed = get_or-between xs from to (k - from) 0 (omega arith) ∙ ap (λ i. get_or xs i 0) place ∙ e in
    none (k - from) (omega arith) (omega arith) (eq-eqb _ _ same)

-- none in a part, and none in the next
pub none_in_both : (xs : List ℕ) (a b c : ℕ) → NoFeed xs a b → NoFeed xs b c → NoFeed xs a c
none_in_both xs a b c left right k low high = ⊎_elim (λ h. left k low h) (λ h. right k h high) (cases_lt k b)

-- a part is unbroken where there is none from its first place to the one behind it
pub unbroken : (xs : List ℕ) (from to : ℕ) → to ≤ length xs → NoFeed xs from to → IsUnbroken (between from to xs)
unbroken xs from to fits none =
    let long = length-between xs from to fits in
    All-from_get_or (λ c. c ≢ line_feed) (between from to xs) 0 (λ i h e. none (from + i) (omega arith) (omega (arith, long)) (sym (get_or-between xs from to i 0 (omega (arith, long))) ∙ e))

-- two parts, one behind the other
pub joined : (xs : List ℕ) (a b c : ℕ) → a ≤ b → b ≤ c → between a c xs ≡ between a b xs ++ between b c xs
joined xs a b c low high =
    let size : c - a ≡ (b - a) + (c - b) = omega arith in
    let place : a + (b - a) ≡ b = omega arith in
    ap (λ n. take n (drop a xs)) size ∙ take-add (b - a) (c - b) (drop a xs) ∙ ap (λ ys. take (b - a) (drop a xs) ++ take (c - b) ys) (drop-drop (b - a) a xs ∙ ap (λ i. drop i xs) place)

-- a part from a place on whose byte is known
pub first_of_part : (xs : List ℕ) (a c x : ℕ) → a < c → c ≤ length xs → get_or xs a 0 ≡ x → between a c xs ≡ x ∷ between (a + 1) c xs
first_of_part xs a c x low fits e =
    let size : c - a ≡ (c - (a + 1)) + 1 = omega arith in
    ap (λ n. take n (drop a xs)) size ∙ ap (λ ys. take ((c - (a + 1)) + 1) ys) (drop_more xs a 0 (omega arith)) ∙ ap (λ n. take n (get_or xs a 0 ∷ drop (a + 1) xs)) (add-one (c - (a + 1))) ∙ ap (λ y. y ∷ between (a + 1) c xs) e

-- a front of a part
pub front_of_part : (xs : List ℕ) (a n c : ℕ) → a + n ≤ c → take n (between a c xs) ≡ between a (a + n) xs
front_of_part xs a n c fits =
    let size : (a + n) - a ≡ n = omega arith in
    take-take n (c - a) (drop a xs) (omega arith) ∙ ap (λ m. take m (drop a xs)) (sym size)

-- what stands before a place stays where what stands behind it changes
pub kept_before : (xs zs : List ℕ) (from to : ℕ) → to ≤ length xs → between from to (take to xs ++ zs) ≡ between from to xs
kept_before xs zs from to fits = between_is (take to xs ++ zs) from to ∙ ap (drop from) (take_at (take to xs) zs to (length-take-le to xs fits)) ∙ sym (between_is xs from to)

-- bytes were put behind a place
pub read_behind : (xs buf post : List ℕ) (from to n : ℕ) → from ≤ to → to ≤ length xs → n ≤ length buf → between from (to + n) (take to xs ++ (buf ++ post)) ≡ between from to xs ++ take n buf
read_behind xs buf post from to n low fits few =
    let size : (to + n) - to ≡ n = omega arith in
    let behind : drop to (take to xs ++ (buf ++ post)) ≡ buf ++ post = drop_at (take to xs) (buf ++ post) to (length-take-le to xs fits) in
    joined (take to xs ++ (buf ++ post)) from to (to + n) low (omega arith)
    ∙ ap (λ ys. ys ++ between to (to + n) (take to xs ++ (buf ++ post))) (kept_before xs (buf ++ post) from to fits)
    ∙ ap (λ ys. between from to xs ++ take ((to + n) - to) ys) behind ∙ ap (λ m. between from to xs ++ take m (buf ++ post)) size
    ∙ ap (λ ys. between from to xs ++ ys) (take-append-le n buf post few)

-- what stands within a front stays where that front does
pub kept_in_front : (xs ys : List ℕ) (from to : ℕ) → to ≤ length xs → take (length xs) ys ≡ xs → between from to ys ≡ between from to xs
kept_in_front xs ys from to fits same =
    between_is ys from to ∙ ap (drop from) (sym (take-take to (length xs) ys fits) ∙ ap (take to) same) ∙ sym (between_is xs from to)
