-- Lists of bytes that are cut into pieces of one width, and put together again.
use Rattle.std.proofs.Common.{◌≡◌, ℕ, zero, suc, ◌+◌, ◌*◌, ◌/◌, ◌<◌, ◌≤◌, ◌-◌, Bool, true, false, ◌&&◌, List, [], ◌∷◌, ◌++◌, length, take, drop, map, refl, sym, ap, ◌∙◌, arith, subst, inl, inr, get_or, lit<, zero-add, add-zero, ◌%◌}
use Rattle.std.proofs.Math.Nat.{mul-add, mul-one, add-mul-div_left, div-eq_of_lt, div-add-mod}
use Rattle.std.proofs.lemmas.Nat.{mul-le}
use Rattle.frames.specs.Writing.{pasted}
use Rattle.std.proofs.lemmas.Bool.{cases_lt, and_parts}
use Rattle.std.specs.List.{range_with_len, flat_map, list_all, All}
use Rattle.std.proofs.lemmas.List.{take_at, drop_at, drop-drop, length-append, take-append-drop, length-take-le, length-drop, length-take, take-take, drop-take, nil_from_length, get_or-take, get_or-drop, get_or_past, get_or-map, append_assoc, append-nil}
use Rattle.std.proofs.lemmas.List.Elements.{All-nil, All-cons, All-head, All-tail}
use Rattle.std.proofs.lemmas.List.FromFn.{length-map-range_with_len, get_or-map-range_with_len}
use Rattle.std.proofs.lemmas.List.Folds.{list_all_at}
use Rattle.frames.specs.Reading.{piece, pieces_of_width}

shifted : {V : Type 0} (f g : ℕ → V) (a b n : ℕ) → ((k : ℕ) → f (a + k) ≡ g (b + k)) → map f (range_with_len a n) ≡ map g (range_with_len b n)
shifted f g a b zero h = refl
shifted f g a b (suc n) h =
    let here : f a ≡ g b = ap f (omega arith) ∙ h 0 ∙ ap g (omega arith) in
    let rest : map f (range_with_len (a + 1) n) ≡ map g (range_with_len (b + 1) n) = shifted f g (a + 1) (b + 1) n (λ k. ap f (omega arith) ∙ h (1 + k) ∙ ap g (omega arith)) in
    rw (here, rest) refl

first_piece : (width : ℕ) (s rest : List ℕ) → length s ≡ width → piece width (s ++ rest) 0 ≡ s
first_piece width s rest l =
    let e : width * 0 ≡ 0 = omega arith in
    rw e (take_at s rest width l)

later_piece : (width k : ℕ) (s rest : List ℕ) → length s ≡ width → piece width (s ++ rest) (1 + k) ≡ piece width rest (0 + k)
later_piece width k s rest l =
    let e : width * (1 + k) ≡ width + width * (0 + k) = omega (arith, mul-add width 1 k, zero-add k) in
    ap (take width) (ap (λ n. drop n (s ++ rest)) e ∙ sym (drop-drop (width * (0 + k)) width (s ++ rest)) ∙ ap (drop (width * (0 + k))) (drop_at s rest width l))

quotient_more : (width n : ℕ) → 0 < width → (width + n) / width ≡ suc (n / width)
quotient_more width n h =
    let e : (n + width * 1) / width ≡ n / width + 1 = add-mul-div_left n 1 h in
    ap (λ x. x / width) (omega (arith, mul-one width)) ∙ e ∙ omega arith

pub cut-cons : (width : ℕ) (s rest : List ℕ) → 0 < width → length s ≡ width → pieces_of_width width (s ++ rest) ≡ s ∷ pieces_of_width width rest
cut-cons width s rest h l =
    let n : length (s ++ rest) / width ≡ suc (length rest / width) = ap (λ x. x / width) (length-append s rest ∙ ap (λ x. x + length rest) l) ∙ quotient_more width (length rest) h in
    ap (λ c. map (piece width (s ++ rest)) (range_with_len 0 c)) n
    ∙ ap (λ x. x ∷ map (piece width (s ++ rest)) (range_with_len 1 (length rest / width))) (first_piece width s rest l)
    ∙ ap (λ xs. s ∷ xs) (shifted (piece width (s ++ rest)) (piece width rest) 1 0 (length rest / width) (λ k. later_piece width k s rest l))

pub cut-nil : (width : ℕ) → 0 < width → pieces_of_width width [] ≡ []
cut-nil width h =
    let e : 0 / width ≡ 0 = div-eq_of_lt h in
    ap (λ c. map (piece width []) (range_with_len 0 c)) e

-- each number is one of a byte
abbrev pub AreBytes : List ℕ → Type 0
AreBytes bytes = (i : ℕ) → get_or bytes i 0 < 256

pub AreBytes-take : (n : ℕ) (bytes : List ℕ) → AreBytes bytes → AreBytes (take n bytes)
AreBytes-take n bytes h i = elim (cases_lt i n) [
  | inl l ↦ rw (get_or-take n bytes i 0 l) (h i)
  | inr l ↦ rw (get_or_past (take n bytes) i 0 (omega (arith, length-take n bytes))) (lit< tt)
]

pub AreBytes-drop : (n : ℕ) (bytes : List ℕ) → AreBytes bytes → AreBytes (drop n bytes)
AreBytes-drop n bytes h i = rw (get_or-drop n bytes i 0) (h (n + i))

-- values in range have spellings of one width, from which they are read
pub record IsFormat {V : Type 0} (width : ℕ) (spell : V → List ℕ) (read : List ℕ → V) (P : V → Type 0) : Type 0 where
  pub wide : 0 < width
  pub long : (x : V) → P x → length (spell x) ≡ width
  pub back : (x : V) → P x → read (spell x) ≡ x

-- a test that holds of exactly the spellings of values in range
pub record IsTest {V : Type 0} (width : ℕ) (spell : V → List ℕ) (read : List ℕ → V) (P : V → Type 0) (test : List ℕ → Bool) : Type 0 where
  pub passes : (x : V) → P x → test (spell x) ≡ true
  pub valid : (b : List ℕ) → length b ≡ width → AreBytes b → test b ≡ true → P (read b)
  pub restores : (b : List ℕ) → length b ≡ width → AreBytes b → test b ≡ true → spell (read b) ≡ b

pub cut_spelt : {V : Type 0} (width : ℕ) (spell : V → List ℕ) (read : List ℕ → V) (P : V → Type 0) → IsFormat width spell read P → (xs : List V) → All P xs → pieces_of_width width (flat_map spell xs) ≡ map spell xs
cut_spelt width spell read P f [] h = cut-nil width f.wide
cut_spelt width spell read P f (x ∷ xs) h =
    cut-cons width (spell x) (flat_map spell xs) f.wide (f.long x (All-head P x xs h)) ∙ ap (λ ys. spell x ∷ ys) (cut_spelt width spell read P f xs (All-tail P x xs h))

read_each : {V : Type 0} (width : ℕ) (spell : V → List ℕ) (read : List ℕ → V) (P : V → Type 0) → IsFormat width spell read P → (xs : List V) → All P xs → map read (map spell xs) ≡ xs
read_each width spell read P f [] h = refl
read_each width spell read P f (x ∷ xs) h =
    let here : read (spell x) ≡ x = f.back x (All-head P x xs h) in
    let rest : map read (map spell xs) ≡ xs = read_each width spell read P f xs (All-tail P x xs h) in
    rw (here, rest) refl

-- what is spelt is read
pub read_spelt : {V : Type 0} (width : ℕ) (spell : V → List ℕ) (read : List ℕ → V) (P : V → Type 0) → IsFormat width spell read P → (xs : List V) → All P xs → map read (pieces_of_width width (flat_map spell xs)) ≡ xs
read_spelt width spell read P f xs h = ap (map read) (cut_spelt width spell read P f xs h) ∙ read_each width spell read P f xs h

pub length_spelt : {V : Type 0} (width : ℕ) (spell : V → List ℕ) (read : List ℕ → V) (P : V → Type 0) → IsFormat width spell read P → (xs : List V) → All P xs → length (flat_map spell xs) ≡ width * length xs
length_spelt width spell read P f [] h = omega arith
length_spelt width spell read P f (x ∷ xs) h =
    let e : length (flat_map spell xs) ≡ width * length xs = length_spelt width spell read P f xs (All-tail P x xs h) in
    let l : length (spell x) ≡ width = f.long x (All-head P x xs h) in
    omega (arith, length-append (spell x) (flat_map spell xs), mul-add width 1 (length xs), mul-one width)

test_each : {V : Type 0} (width : ℕ) (spell : V → List ℕ) (read : List ℕ → V) (P : V → Type 0) (test : List ℕ → Bool) → IsTest width spell read P test → (xs : List V) → All P xs → list_all test (map spell xs) ≡ true
test_each width spell read P test t [] h = refl
test_each width spell read P test t (x ∷ xs) h =
    let here : test (spell x) ≡ true = t.passes x (All-head P x xs h) in
    let rest : list_all test (map spell xs) ≡ true = test_each width spell read P test t xs (All-tail P x xs h) in
    rw (here, rest) refl

-- what is spelt passes the test
pub test_spelt : {V : Type 0} (width : ℕ) (spell : V → List ℕ) (read : List ℕ → V) (P : V → Type 0) (test : List ℕ → Bool) → IsFormat width spell read P → IsTest width spell read P test → (xs : List V) → All P xs → list_all test (pieces_of_width width (flat_map spell xs)) ≡ true
test_spelt width spell read P test f t xs h = ap (list_all test) (cut_spelt width spell read P f xs h) ∙ test_each width spell read P test t xs h

-- what passes the test is the spelling of values in range
pub restored : {V : Type 0} (width : ℕ) (spell : V → List ℕ) (read : List ℕ → V) (P : V → Type 0) (test : List ℕ → Bool) → 0 < width → IsTest width spell read P test
    → (n : ℕ) (bytes : List ℕ) → length bytes ≡ width * n → AreBytes bytes → list_all test (pieces_of_width width bytes) ≡ true
    → (flat_map spell (map read (pieces_of_width width bytes)) ≡ bytes) × All P (map read (pieces_of_width width bytes))
restored width spell read P test wide t zero bytes l b h =
    let nil : bytes ≡ [] = nil_from_length bytes (omega arith) in
    let c : pieces_of_width width bytes ≡ [] = ap (pieces_of_width width) nil ∙ cut-nil width wide in
    (ap (λ ps. flat_map spell (map read ps)) c ∙ sym nil, subst (λ ps. All P (map read ps)) (sym c) (All-nil P))
restored width spell read P test wide t (suc n) bytes l b h =
    let front : List ℕ = take width bytes in
    let back : List ℕ = drop width bytes in
    let whole : front ++ back ≡ bytes = take-append-drop width bytes in
    let m : width * suc n ≡ width + width * n = omega (arith, mul-add width 1 n, mul-one width) in
    let lf : length front ≡ width = length-take-le width bytes (omega arith) in
    let lb : length back ≡ width * n = omega (arith, length-drop width bytes) in
    let c : pieces_of_width width bytes ≡ front ∷ pieces_of_width width back = ap (pieces_of_width width) (sym whole) ∙ cut-cons width front back wide lf in
    let both : (test front && list_all test (pieces_of_width width back)) ≡ true = sym (ap (list_all test) c) ∙ h in
    let here : test front ≡ true = (and_parts _ _ both).0 in
    let bf : AreBytes front = AreBytes-take width bytes b in
    let rest = restored width spell read P test wide t n back lb (AreBytes-drop width bytes b) (and_parts _ _ both).1 in
    let e : spell (read front) ≡ front = t.restores front lf bf here in (
      ap (λ ps. flat_map spell (map read ps)) c ∙ ap (λ s. s ++ flat_map spell (map read (pieces_of_width width back))) e ∙ ap (λ s. front ++ s) rest.0 ∙ whole,
      subst (λ ps. All P (map read ps)) (sym c) (All-cons P (read front) (map read (pieces_of_width width back)) (t.valid front lf bf here) rest.1),
    )

-- ---- one piece of many

pub length-cut : (width : ℕ) (bytes : List ℕ) → length (pieces_of_width width bytes) ≡ length bytes / width
length-cut width bytes = length-map-range_with_len (piece width bytes) 0 (length bytes / width)

pub get_or-cut : (width : ℕ) (bytes : List ℕ) (k : ℕ) (d : List ℕ) → k < length bytes / width → get_or (pieces_of_width width bytes) k d ≡ piece width bytes k
get_or-cut width bytes k d h = get_or-map-range_with_len (piece width bytes) 0 (length bytes / width) k k d h (zero-add k)

-- the k-th value that is read
pub read_at : {V : Type 0} (width : ℕ) (read : List ℕ → V) (bytes : List ℕ) (k : ℕ) (d : V) → k < length bytes / width → get_or (map read (pieces_of_width width bytes)) k d ≡ read (piece width bytes k)
read_at width read bytes k d h =
    get_or-map read (pieces_of_width width bytes) k [] d (omega (arith, length-cut width bytes)) ∙ ap read (get_or-cut width bytes k [] h)

pub get_or-piece : (width : ℕ) (bytes : List ℕ) (k i : ℕ) → i < width → get_or (piece width bytes k) i 0 ≡ get_or bytes (width * k + i) 0
get_or-piece width bytes k i h = get_or-take width (drop (width * k) bytes) i 0 h ∙ get_or-drop (width * k) bytes i 0

pub length-piece : (width : ℕ) (bytes : List ℕ) (k : ℕ) → width * k + width ≤ length bytes → length (piece width bytes k) ≡ width
length-piece width bytes k h = length-take-le width (drop (width * k) bytes) (omega (arith, length-drop (width * k) bytes))

-- a piece before the end lies within the bytes
pub piece_within : (width k n : ℕ) → 0 < width → k < n / width → width * k + width ≤ n
piece_within width k n h l =
    let e : width * (n / width) + n % width ≡ n = div-add-mod n width in
    let m : width * (k + 1) ≤ width * (n / width) = mul-le width (k + 1) width (n / width) (omega arith) (omega arith) in
    omega (arith, mul-add width k 1, mul-one width)

-- a piece as a part of a slice
pub slice_is_piece : (width : ℕ) (bytes : List ℕ) (k : ℕ) → take (width * k + width - width * k) (drop (width * k) bytes) ≡ piece width bytes k
slice_is_piece width bytes k = ap (λ n. take n (drop (width * k) bytes)) (omega arith)

-- a test of all pieces
pub each_passes : (test : List ℕ → Bool) (width : ℕ) (bytes : List ℕ) → ((k : ℕ) → k < length bytes / width → test (piece width bytes k) ≡ true) → list_all test (pieces_of_width width bytes) ≡ true
each_passes test width bytes h = along 0 (length bytes / width) (λ k l. h k (omega arith))
  where
    along : (a n : ℕ) → ((k : ℕ) → k < a + n → test (piece width bytes k) ≡ true) → list_all test (map (piece width bytes) (range_with_len a n)) ≡ true
    along a zero h = refl
    along a (suc n) h =
        let here : test (piece width bytes a) ≡ true = h a (omega arith) in
        let rest : list_all test (map (piece width bytes) (range_with_len (a + 1) n)) ≡ true = along (a + 1) n (λ k l. h k (omega arith)) in
        rw (here, rest) refl

pub one_fails : (test : List ℕ → Bool) (width : ℕ) (bytes : List ℕ) (k : ℕ) → k < length bytes / width → test (piece width bytes k) ≡ false → list_all test (pieces_of_width width bytes) ≡ false
one_fails test width bytes k l h = list_all_at test (pieces_of_width width bytes) k [] (omega (arith, length-cut width bytes)) (ap test (get_or-cut width bytes k [] l) ∙ h)

-- ---- writing

pub length-pasted : (at : ℕ) (bytes old : List ℕ) → at + length bytes ≤ length old → length (pasted at bytes old) ≡ length old
length-pasted at bytes old h =
    omega (arith, length-append (take at old ++ bytes) (drop (at + length bytes) old), length-append (take at old) bytes, length-take at old, length-drop (at + length bytes) old)

-- a write right after another
pub pasted_twice : (at next : ℕ) (xs ys old : List ℕ) → at + length xs ≡ next → next + length ys ≤ length old → pasted next ys (pasted at xs old) ≡ pasted at (xs ++ ys) old
pasted_twice at next xs ys old e h =
    let front : length (take at old ++ xs) ≡ next = omega (arith, length-append (take at old) xs, length-take at old) in
    let a : take next (pasted at xs old) ≡ take at old ++ xs = take_at (take at old ++ xs) (drop (at + length xs) old) next front in
    let b : drop (next + length ys) (pasted at xs old) ≡ drop (at + length (xs ++ ys)) old =
    sym (drop-drop (length ys) next (pasted at xs old)) ∙ ap (drop (length ys)) (drop_at (take at old ++ xs) (drop (at + length xs) old) next front)
    ∙ drop-drop (length ys) (at + length xs) old ∙ ap (λ n. drop n old) (omega (arith, length-append xs ys)) in
    ap (λ l. l ++ ys ++ drop (next + length ys) (pasted at xs old)) a
    ∙ ap (λ l. take at old ++ xs ++ ys ++ l) b
    ∙ ap (λ l. l ++ drop (at + length (xs ++ ys)) old) (append_assoc (take at old) xs ys)

pub pasted_nothing : (at : ℕ) (old : List ℕ) → pasted at [] old ≡ old
pasted_nothing at old = ap (λ l. l ++ drop (at + 0) old) (append-nil (take at old)) ∙ ap (λ n. take at old ++ drop n old) (add-zero at) ∙ take-append-drop at old

pub take-pasted : (at : ℕ) (bytes old : List ℕ) → at + length bytes ≤ length old → take (at + length bytes) (pasted at bytes old) ≡ take at old ++ bytes
take-pasted at bytes old h =
    take_at (take at old ++ bytes) (drop (at + length bytes) old) (at + length bytes) (omega (arith, length-append (take at old) bytes, length-take at old))

-- a header in front of what stands behind its room
pub pasted_front : (header body old : List ℕ) → length header + length body ≤ length old → pasted 0 header (pasted (length header) body old) ≡ pasted 0 (header ++ body) old
pasted_front header body old h =
    let n : ℕ = length header in
    let rest : List ℕ = drop (n + length body) old in
    let front : length (take n old) ≡ n = length-take-le n old (omega arith) in
    let a : drop (0 + n) (pasted n body old) ≡ body ++ rest =
    ap (λ k. drop k (pasted n body old)) (zero-add n) ∙ ap (drop n) (append_assoc (take n old) body rest) ∙ drop_at (take n old) (body ++ rest) n front in
    let e : n + length body ≡ 0 + length (header ++ body) = omega (arith, length-append header body) in
    ap (λ xs. [] ++ header ++ xs) a ∙ sym (append_assoc header body rest) ∙ ap (λ k. header ++ body ++ drop k old) e

-- ---- pieces that are alike

window : (w i n a : ℕ) (xs : List ℕ) → i + w ≤ n → take w (drop (a + i) xs) ≡ take w (drop i (take n (drop a xs)))
window w i n a xs h =
    let e : i + (n - i) ≡ n = omega arith in
    ap (take w) (sym (drop-drop i a xs))
    ∙ sym (take-take w (n - i) (drop i (drop a xs)) (omega arith))
    ∙ ap (take w) (sym (drop-take i (n - i) (drop a xs)) ∙ ap (λ m. drop i (take m (drop a xs))) e)

-- where a stretch is the same as the one that begins a piece later, all its pieces are the same
pub pieces_alike : (w n f d : ℕ) (xs : List ℕ) → w * d ≤ n → take n (drop (w * f) xs) ≡ take n (drop (w * f + w) xs) → piece w xs (f + d) ≡ piece w xs f
pieces_alike w n f zero xs fits same = let e : f + 0 ≡ f = omega arith in ap (piece w xs) e
pieces_alike w n f (suc d) xs fits same =
    let more : w * suc d ≡ w * d + w = omega arith in
    let a : w * (f + suc d) ≡ w * f + w + w * d = omega arith in
    let b : w * f + w * d ≡ w * (f + d) = omega arith in
    ap (λ m. take w (drop m xs)) a
    ∙ window w (w * d) n (w * f + w) xs (omega arith)
    ∙ ap (λ ys. take w (drop (w * d) ys)) (sym same)
    ∙ sym (window w (w * d) n (w * f) xs (omega arith))
    ∙ ap (λ m. take w (drop m xs)) b
    ∙ pieces_alike w n f d xs (omega arith) same

pub read_alike : {V : Type 0} (width : ℕ) (read : List ℕ → V) (bytes : List ℕ) (k j : ℕ) (d : V) → k < length bytes / width → j < length bytes / width → piece width bytes k ≡ piece width bytes j
    → get_or (map read (pieces_of_width width bytes)) k d ≡ get_or (map read (pieces_of_width width bytes)) j d
read_alike width read bytes k j d a b e = read_at width read bytes k d a ∙ ap read e ∙ sym (read_at width read bytes j d b)
