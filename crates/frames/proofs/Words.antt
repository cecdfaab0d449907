-- What a number of eight bytes tells of them.
use Rattle.std.proofs.Common.{◌≡◌, ◌≢◌, ℕ, zero, suc, ◌+◌, ◌-◌, ◌*◌, ◌/◌, ◌^◌, ◌<◌, ◌≤◌, Bool, true, false, List, [], ◌∷◌, length, take, drop, get_or, refl, sym, ap, ◌∙◌, arith, inl, inr, lit<, bit_and}
use Rattle.std.specs.Prelude.{◌==◌}
use Rattle.std.specs.Int.{w64, from_be_bytes}
use Rattle.std.specs.Int.Bits.{and_zero_r}
use Rattle.std.specs.List.{list_all}
use Rattle.std.proofs.lemmas.Bool.{cases_lt, cases_Bool, and_parts, eqb-true, eq-eqb}
use Rattle.std.proofs.lemmas.Nat.{and_block, and_mask, le-div}
use Rattle.std.proofs.Math.Nat.{mul-add, mul-one}
use Rattle.std.proofs.lemmas.List.{drop-drop, drop-take, take-take, drop_more}
use Rattle.frames.specs.Checks.{are_masks, are_zero}
use Rattle.frames.specs.Reading.{piece, pieces_of_width}
use Rattle.frames.specs.PieceLaws.{AreBytes, AreBytes-take, AreBytes-drop, get_or-piece, piece_within, each_passes, one_fails}
use Rattle.frames.specs.EntryLaws.{large_mask}

-- ---- the bytes of a number

-- two bytes more, of which the first is kept
pair_kept : (y m h l : ℕ) → h < 256 → l < 256 → bit_and (y * 2 ^ 16 + (h * 2 ^ 8 + l)) (m * 2 ^ 16 + 65280) ≡ bit_and y m * 2 ^ 16 + h * 2 ^ 8
pair_kept y m h l hs ls =
    let low : bit_and (h * 2 ^ 8 + l) (255 * 2 ^ 8 + 0) ≡ bit_and h 255 * 2 ^ 8 + bit_and l 0 = and_block 8 h 255 l 0 ls (lit< tt) in
    let high : bit_and h 255 ≡ h = and_mask h 8 ∙ omega arith in
    let none : bit_and l 0 ≡ 0 = and_zero_r l in
    and_block 16 y m (h * 2 ^ 8 + l) 65280 (omega arith) (lit< tt)
    ∙ ap (λ v. bit_and y m * 2 ^ 16 + v) (low ∙ omega (arith, high, none))

-- the first, third, fifth and seventh of eight bytes
pub kept_bytes : (b : List ℕ) → AreBytes b
    → bit_and (from_be_bytes w64 b) 18374966859414961920 ≡ ((get_or b 0 0 * 2 ^ 8 * 2 ^ 16 + get_or b 2 0 * 2 ^ 8) * 2 ^ 16 + get_or b 4 0 * 2 ^ 8) * 2 ^ 16 + get_or b 6 0 * 2 ^ 8
kept_bytes b h =
    let p : ℕ → ℕ = λ i. get_or b i 0 * 2 ^ 8 + get_or b (i + 1) 0 in
    let one : ℕ = 0 * 2 ^ 16 + p 0 in
    let two : ℕ = one * 2 ^ 16 + p 2 in
    let three : ℕ = two * 2 ^ 16 + p 4 in
    let whole : from_be_bytes w64 b ≡ three * 2 ^ 16 + p 6 = omega arith in
    let a : bit_and one 65280 ≡ get_or b 0 0 * 2 ^ 8 = pair_kept 0 0 (get_or b 0 0) (get_or b 1 0) (h 0) (h 1) ∙ omega arith in
    let c : bit_and two 4278255360 ≡ bit_and one 65280 * 2 ^ 16 + get_or b 2 0 * 2 ^ 8 = pair_kept one 65280 (get_or b 2 0) (get_or b 3 0) (h 2) (h 3) in
    let d : bit_and three 280379743338240 ≡ bit_and two 4278255360 * 2 ^ 16 + get_or b 4 0 * 2 ^ 8 = pair_kept two 4278255360 (get_or b 4 0) (get_or b 5 0) (h 4) (h 5) in
    ap (λ x. bit_and x 18374966859414961920) whole
    ∙ pair_kept three 280379743338240 (get_or b 6 0) (get_or b 7 0) (h 6) (h 7)
    ∙ omega (arith, a, c, d)

AreBytes-piece : (bytes : List ℕ) (k : ℕ) → AreBytes bytes → AreBytes (piece 8 bytes k)
AreBytes-piece bytes k b = AreBytes-take 8 (drop (8 * k) bytes) (AreBytes-drop (8 * k) bytes b)

byte_at : (bytes : List ℕ) (k i n : ℕ) → i < 8 → 8 * k + i ≡ n → get_or (piece 8 bytes k) i 0 ≡ get_or bytes n 0
byte_at bytes k i n l e = get_or-piece 8 bytes k i l ∙ ap (λ x. get_or bytes x 0) e

-- ---- the bytes of a piece

taken : (m n next : ℕ) (bytes : List ℕ) → n < length bytes → n + 1 ≡ next → take (suc m) (drop n bytes) ≡ get_or bytes n 0 ∷ take m (drop next bytes)
taken m n next bytes l e = ap (take (suc m)) (drop_more bytes n 0 l) ∙ ap (λ i. get_or bytes n 0 ∷ take m (drop i bytes)) e

-- the eight bytes from a place on, one by one
pub eight_bytes : (n : ℕ) (bytes : List ℕ) → n + 8 ≤ length bytes
    → take 8 (drop n bytes) ≡ get_or bytes n 0 ∷ get_or bytes (n + 1) 0 ∷ get_or bytes (n + 2) 0 ∷ get_or bytes (n + 3) 0
    ∷ get_or bytes (n + 4) 0 ∷ get_or bytes (n + 5) 0 ∷ get_or bytes (n + 6) 0 ∷ get_or bytes (n + 7) 0 ∷ []
eight_bytes n bytes h =
    let b : ℕ → List ℕ → List ℕ = λ i xs. get_or bytes i 0 ∷ xs in
    let one : (m i : ℕ) → i < 8 → take (suc m) (drop (n + i) bytes) ≡ b (n + i) (take m (drop (n + (i + 1)) bytes)) =
    λ m i l. taken m (n + i) (n + (i + 1)) bytes (omega arith) (omega arith) in
    taken 7 n (n + 1) bytes (omega arith) refl
    ∙ ap (b n) (one 6 1 (lit< tt) ∙ ap (b (n + 1)) (one 5 2 (lit< tt) ∙ ap (b (n + 2)) (one 4 3 (lit< tt) ∙ ap (b (n + 3)) (one 3 4 (lit< tt)
    ∙ ap (b (n + 4)) (one 2 5 (lit< tt) ∙ ap (b (n + 5)) (one 1 6 (lit< tt) ∙ ap (b (n + 6)) (one 0 7 (lit< tt))))))))

-- ---- bytes that are 0

pub zeros_told : (bytes : List ℕ) → are_zero bytes ≡ true → (i : ℕ) → get_or bytes i 0 ≡ 0
zeros_told [] h i = refl
zeros_told (b ∷ bs) h zero = eqb-true b 0 (and_parts _ _ h).0
zeros_told (b ∷ bs) h (suc i) = zeros_told bs (and_parts _ _ h).1 i

-- a number that isn't 0 has a byte that isn't
pub some_byte : (bytes : List ℕ) (k : ℕ) → from_be_bytes w64 (piece 8 bytes k) ≢ 0 → are_zero bytes ≡ false
some_byte bytes k n = elim (cases_Bool (are_zero bytes)) [
  | inl y ↦
      let z : (i : ℕ) → i < 8 → get_or (piece 8 bytes k) i 0 ≡ 0 = λ i l. byte_at bytes k i (8 * k + i) l refl ∙ zeros_told bytes y (8 * k + i) in
      absurd (n (omega (arith, z 0 (lit< tt), z 1 (lit< tt), z 2 (lit< tt), z 3 (lit< tt), z 4 (lit< tt), z 5 (lit< tt), z 6 (lit< tt), z 7 (lit< tt))))
  | inr f ↦ f
]

all_bytes : (b : List ℕ) → from_be_bytes w64 b ≡ 0 → (i : ℕ) → i < 8 → get_or b i 0 ≡ 0
all_bytes b h zero l = omega arith
all_bytes b h (suc zero) l = omega arith
all_bytes b h (suc (suc zero)) l = omega arith
all_bytes b h (suc (suc (suc zero))) l = omega arith
all_bytes b h (suc (suc (suc (suc zero)))) l = omega arith
all_bytes b h (suc (suc (suc (suc (suc zero))))) l = omega arith
all_bytes b h (suc (suc (suc (suc (suc (suc zero)))))) l = omega arith
all_bytes b h (suc (suc (suc (suc (suc (suc (suc zero))))))) l = omega arith
all_bytes b h (suc (suc (suc (suc (suc (suc (suc (suc i)))))))) l = absurd (omega arith)

-- one number more
pub zeros_more : (bytes : List ℕ) (k : ℕ) → ((i : ℕ) → i < 8 * k → get_or bytes i 0 ≡ 0) → from_be_bytes w64 (piece 8 bytes k) ≡ 0 → (i : ℕ) → i < 8 * (k + 1) → get_or bytes i 0 ≡ 0
zeros_more bytes k before h i l = elim (cases_lt i (8 * k)) [
  | inl old ↦ before i old
  | inr new ↦ sym (byte_at bytes k (i - 8 * k) i (omega arith) (omega arith)) ∙ all_bytes (piece 8 bytes k) h (i - 8 * k) (omega arith)
]

-- and then the rest
pub zeros_rest : (n : ℕ) (bytes : List ℕ) → ((i : ℕ) → i < n → get_or bytes i 0 ≡ 0) → are_zero (drop n bytes) ≡ are_zero bytes
zeros_rest zero bytes h = refl
zeros_rest (suc n) [] h = refl
zeros_rest (suc n) (b ∷ bs) h =
    let z : (b == 0) ≡ true = eq-eqb b 0 (h 0 (omega arith)) in
    zeros_rest n bs (λ i l. h (suc i) (omega arith)) ∙ rw z refl

-- ---- masks below 256

masks_told : (bytes : List ℕ) (k : ℕ) → are_masks 1 bytes ≡ true → k < length bytes / 2 → get_or bytes (2 * k) 0 ≡ 0
masks_told bytes k t l = elim (cases_lt 0 (get_or bytes (2 * k) 0)) [
  | inl some ↦ absurd (let f : are_masks 1 bytes ≡ false = large_mask 1 bytes k l refl (omega arith) in cc)
  | inr none ↦ omega arith
]

-- a high byte that isn't 0 is that of a large mask
pub some_high : (bytes : List ℕ) (k : ℕ) → AreBytes bytes → k < length bytes / 8 → bit_and (from_be_bytes w64 (piece 8 bytes k)) 18374966859414961920 ≢ 0 → are_masks 1 bytes ≡ false
some_high bytes k b l n = elim (cases_Bool (are_masks 1 bytes)) [
  | inl y ↦
      let z : (i j : ℕ) → i < 8 → i ≡ 2 * j → get_or (piece 8 bytes k) i 0 ≡ 0 =
      λ i j w e. byte_at bytes k i (2 * (4 * k + j)) w (omega arith) ∙ masks_told bytes (4 * k + j) y (omega arith) in
      absurd (n (kept_bytes (piece 8 bytes k) (AreBytes-piece bytes k b) ∙ omega (arith, z 0 0 (lit< tt) refl, z 2 1 (lit< tt) refl, z 4 2 (lit< tt) refl, z 6 3 (lit< tt) refl)))
  | inr f ↦ f
]

high_bytes : (b : List ℕ) → AreBytes b → bit_and (from_be_bytes w64 b) 18374966859414961920 ≡ 0 → (j : ℕ) → j < 4 → get_or b (2 * j) 0 ≡ 0
high_bytes b a h zero l = omega (arith, kept_bytes b a)
high_bytes b a h (suc zero) l = omega (arith, kept_bytes b a)
high_bytes b a h (suc (suc zero)) l = omega (arith, kept_bytes b a)
high_bytes b a h (suc (suc (suc zero))) l = omega (arith, kept_bytes b a)
high_bytes b a h (suc (suc (suc (suc j)))) l = absurd (omega arith)

-- four masks more
pub masks_further : (bytes : List ℕ) (k : ℕ) → AreBytes bytes → ((j : ℕ) → j < 4 * k → get_or bytes (2 * j) 0 ≡ 0) → bit_and (from_be_bytes w64 (piece 8 bytes k)) 18374966859414961920 ≡ 0
    → (j : ℕ) → j < 4 * (k + 1) → get_or bytes (2 * j) 0 ≡ 0
masks_further bytes k b before h j l = elim (cases_lt j (4 * k)) [
  | inl old ↦ before j old
  | inr new ↦
      sym (byte_at bytes k (2 * (j - 4 * k)) (2 * j) (omega arith) (omega arith))
      ∙ high_bytes (piece 8 bytes k) (AreBytes-piece bytes k b) h (j - 4 * k) (omega arith)
]

-- ---- entries that are all the same

-- where what follows the first piece is what stands before the last, each piece is the first
pub same_pieces : (width : ℕ) (bytes : List ℕ) → 1 ≤ width → take (length bytes - width) bytes ≡ drop width bytes → (k : ℕ) → width * k + width ≤ length bytes → piece width bytes k ≡ piece width bytes 0
same_pieces width bytes w h zero l = refl
same_pieces width bytes w h (suc k) l =
    let n : ℕ = length bytes - width in
    let m : width * suc k ≡ width + width * k = omega (arith, mul-add width k 1, mul-one width) in
    let long : n ≡ width * k + (n - width * k) = omega arith in
    ap (λ i. take width (drop i bytes)) m
    ∙ ap (take width) (sym (drop-drop (width * k) width bytes) ∙ ap (drop (width * k)) (sym h) ∙ ap (λ i. drop (width * k) (take i bytes)) long ∙ drop-take (width * k) (n - width * k) bytes)
    ∙ take-take width (n - width * k) (drop (width * k) bytes) (omega arith)
    ∙ same_pieces width bytes w h k (omega arith)

-- so a test of the first is a test of all
pub same_tested : (test : List ℕ → Bool) (width : ℕ) (bytes : List ℕ) → 1 ≤ width → width ≤ length bytes → take (length bytes - width) bytes ≡ drop width bytes → test (take width bytes) ≡ list_all test (pieces_of_width width bytes)
same_tested test width bytes w l h =
    let start : width * 0 ≡ 0 = omega arith in
    let first : piece width bytes 0 ≡ take width bytes = ap (λ i. take width (drop i bytes)) start in
    let some : 0 < length bytes / width = le-div 1 (length bytes) width (omega arith) (omega arith) in
    elim (cases_Bool (test (take width bytes))) [
      | inl y ↦ y ∙ sym (each_passes test width bytes (λ k within. ap test (same_pieces width bytes w h k (piece_within width k (length bytes) (omega arith) within) ∙ first) ∙ y))
      | inr n ↦ n ∙ sym (one_fails test width bytes 0 some (ap test first ∙ n))
    ]
