-- What the test on a header says of it.
use Rattle.std.proofs.Common.{◌≡◌, ℕ, zero, suc, ◌+◌, ◌^◌, ◌<◌, ◌≤◌, true, List, [], ◌∷◌, length, take, drop, get_or, refl, sym, ap, ◌∙◌, arith, eq-eqb, eqb-true, lit<}
use Rattle.std.specs.Prelude.{◌==◌}
use Rattle.std.specs.Bool.{Decides}
use Rattle.std.specs.Int.{w32, from_be_bytes, to_be_bytes}
use Rattle.std.proofs.lemmas.Bool.{and_parts, and_from}
use Rattle.std.proofs.lemmas.Bool.Decides.{same_from_decides}
use Rattle.std.proofs.lemmas.Slice.Eq.{bytes_eq-Decides}
use Rattle.std.specs.Str.{bytes_eq}
use Rattle.std.proofs.lemmas.Nat.{be_bytes_4, from_be_bytes-to_be_bytes_4}
use Rattle.std.proofs.lemmas.List.{take_all, length-take-le, length-drop}
use Rattle.frames.specs.declared.frame.Head.{Head}
use Rattle.frames.specs.Checks.{has_fields}
use Rattle.frames.specs.Spelling.{header_spelling}
use Rattle.frames.specs.PieceLaws.{AreBytes, AreBytes-take, AreBytes-drop}
use Rattle.frames.specs.ReadingLaws.{header_fields, glued}

-- the byte at a place, as a piece of one byte
one_at : (n : ℕ) (bytes : List ℕ) → n < length bytes → take 1 (drop n bytes) ≡ get_or bytes n 0 ∷ []
one_at zero [] l = absurd (omega arith)
one_at zero (x ∷ xs) l = refl
one_at (suc n) [] l = absurd (omega arith)
one_at (suc n) (x ∷ xs) l = one_at n xs (omega arith)

byte_is : (n x : ℕ) (bytes : List ℕ) → length bytes ≡ 14 → n < 14 → (get_or bytes n 0 == x) ≡ true → take 1 (drop n bytes) ≡ x ∷ []
byte_is n x bytes long low h = one_at n bytes (omega (arith, long, low)) ∙ ap (λ (y : ℕ). y ∷ []) (eqb-true (get_or bytes n 0) x h)

-- four bytes are the spelling of a number where they tell it
pub number_decided : (n : ℕ) (piece : List ℕ) → length piece ≡ 4 → AreBytes piece → n < 2 ^ 32 → Decides (from_be_bytes w32 piece == n) (piece ≡ to_be_bytes w32 n)
number_decided n piece long b fits = (
  λ h. sym (be_bytes_4 piece n long b (sym (eqb-true (from_be_bytes w32 piece) n h))),
  λ (e : piece ≡ to_be_bytes w32 n). eq-eqb (from_be_bytes w32 piece) n (ap (from_be_bytes w32) e ∙ from_be_bytes-to_be_bytes_4 n fits),
)

pub number_spelt : (at n : ℕ) (bytes : List ℕ) → at + 4 ≤ length bytes → AreBytes bytes → n < 2 ^ 32 → (from_be_bytes w32 (take 4 (drop at bytes)) == n) ≡ bytes_eq (take 4 (drop at bytes)) (to_be_bytes w32 n)
number_spelt at n bytes room b fits =
    let piece : List ℕ = take 4 (drop at bytes) in
    let long : length piece ≡ 4 = length-take-le 4 (drop at bytes) (omega (arith, length-drop at bytes, room)) in
    same_from_decides (from_be_bytes w32 piece == n) (bytes_eq piece (to_be_bytes w32 n))
    (number_decided n piece long (AreBytes-take 4 (drop at bytes) (AreBytes-drop at bytes b)) fits) (bytes_eq-Decides piece (to_be_bytes w32 n))

told : (head : Head) (k size : ℕ) (bytes : List ℕ) → has_fields head k size bytes ≡ true → bytes ≡ header_spelling head k size
told head k size bytes h =
    let p0 = and_parts _ _ h in
    let long : length bytes ≡ 14 = eqb-true (length bytes) 14 p0.0 in
    let p1 = and_parts _ _ p0.1 in
    let p2 = and_parts _ _ p1.1 in
    let p3 = and_parts _ _ p2.1 in
    let p4 = and_parts _ _ p3.1 in
    let p5 = and_parts _ _ p4.1 in
    let p6 = and_parts _ _ p5.1 in
    let p7 = and_parts _ _ p6.1 in
    let magic : take 2 bytes ≡ 77 ∷ 70 ∷ [] = glued 1 1 bytes (77 ∷ []) (70 ∷ []) (byte_is 0 77 bytes long (lit< tt) p1.0) (byte_is 1 70 bytes long (lit< tt) p2.0) in
    sym (take_all 14 bytes (omega (arith, long)))
    ∙ header_fields head k size bytes magic
    (byte_is 2 head.version bytes long (lit< tt) p3.0)
    (byte_is 3 k bytes long (lit< tt) p4.0)
    ((bytes_eq-Decides (take 4 (drop 4 bytes)) (to_be_bytes w32 head.period)).0 p5.0)
    (byte_is 8 head.sender bytes long (lit< tt) p6.0)
    (byte_is 9 head.slot bytes long (lit< tt) p7.0)
    ((bytes_eq-Decides (take 4 (drop 10 bytes)) (to_be_bytes w32 size)).0 p7.1)

spelt : (head : Head) (k size : ℕ) → has_fields head k size (header_spelling head k size) ≡ true
spelt head k size =
    and_from _ _ refl (and_from _ _ refl (and_from _ _ refl (and_from _ _ (eq-eqb head.version head.version refl) (and_from _ _ (eq-eqb k k refl)
    (and_from _ _ ((bytes_eq-Decides (to_be_bytes w32 head.period) (to_be_bytes w32 head.period)).1 refl)
    (and_from _ _ (eq-eqb head.sender head.sender refl) (and_from _ _ (eq-eqb head.slot head.slot refl)
    ((bytes_eq-Decides (to_be_bytes w32 size) (to_be_bytes w32 size)).1 refl))))))))

-- bytes are a header where each of its fields is
pub header_decided : (head : Head) (k size : ℕ) (bytes : List ℕ) → Decides (has_fields head k size bytes) (bytes ≡ header_spelling head k size)
header_decided head k size bytes = (
  told head k size bytes,
  λ (e : bytes ≡ header_spelling head k size). ap (has_fields head k size) e ∙ spelt head k size,
)
