-- The spellings of claims, masks, values and rows, one piece each.
use Rattle.std.proofs.Common.{◌≡◌, ℕ, zero, suc, ◌+◌, ◌-◌, ◌*◌, ◌/◌, ◌%◌, ◌^◌, ◌<◌, ◌≤◌, ◌≢◌, Bool, true, false, List, [], ◌∷◌, ◌++◌, length, take, drop, map, replicate, refl, sym, ap, ◌∙◌, arith, get_or, lit<, add-zero, set}
use Rattle.std.proofs.lemmas.Bool.{and_parts, eqb-true, eq-eqb, ne_eqb, leb-true, le-leb, le-ltb}
use Rattle.std.specs.Prelude.{◌==◌, nat_le, nat_lt, ℤ, pos, negsuc, neg_ℤ, ◌≤ℤ◌, int_le, if◌then◌else◌}
use Rattle.std.specs.Int.{w16, w64, to_be_bytes, from_be_bytes, cast_unsigned, cast_signed}
use Rattle.std.specs.List.{flat_map, All, list_all, range_with_len}
use Rattle.std.proofs.Math.Nat.{div-add-mod}
use Rattle.std.proofs.lemmas.Bool.Decides.{nat_tests, Decides-ltb}
use Rattle.std.proofs.lemmas.List.{drop-take, drop-drop, take_more, set_at, append_assoc, take_at, drop_at, take_all, take-take, length-append, length-take, length-map, length-replicate, take-append-drop, length-take-le}
use Rattle.std.proofs.lemmas.List.Elements.{All-take, All-append, All-replicate}
use Rattle.std.proofs.lemmas.Grind.{flat_map-append}
use Rattle.std.proofs.lemmas.List.FromFn.{length-map-range_with_len}
use mir.Val.{SFits}
use Rattle.std.proofs.lemmas.Nat.{from_be_bytes-to_be_bytes_2, from_be_bytes-to_be_bytes_8, be_bytes_2, be_bytes_8}
use Rattle.std.proofs.lemmas.Int.{ints, to_z-of_z, of_z-to_z}
use Rattle.node_grid.specs.Version.{mask_bound}
use Rattle.node_grid.specs.NumberFacts.{zero_mask, above_zero}
use Rattle.omh_paths.specs.declared.wrapped.Wrapped.{Wrapped}
use Rattle.omh_paths.specs.declared.wrapped.Wrapped.TheVariants.{Plain, Fault}
use Rattle.frames.specs.Content.{IsClaim, IsRow, IsValue, IsEntry}
use Rattle.frames.specs.Spelling.{claim_spelling, row_spelling, relayed_row_spelling, value_spelling}
use Rattle.frames.specs.Reading.{piece, pieces_of_width, content_claim, content_claims, content_rows, content_values, content_row, relayed_row_in, content_value, fits_claim, fits_value}
use Rattle.frames.specs.Checks.{is_written, are_written, is_claim_entry, is_mask, are_masks, are_zero, is_row_entry, is_value}
use Rattle.frames.specs.PieceLaws.{get_or-piece, each_passes, one_fails, AreBytes, AreBytes-drop, IsFormat, IsTest, read_spelt, length_spelt, test_spelt, restored}

-- ---- claims

pub claim_fits : (tasks t : ℕ) → IsClaim tasks t → fits_claim tasks t ≡ true
claim_fits tasks t h = grind (arith, nat_tests)

pub claim_valid : (tasks t : ℕ) → fits_claim tasks t ≡ true → IsClaim tasks t
claim_valid tasks t h = grind (arith, nat_tests)

pub claim_format : (tasks r : ℕ) → IsFormat 2 claim_spelling content_claim (IsEntry (IsClaim tasks) r)
claim_format tasks r = record { wide = lit< tt; long = long; back = back }
  where
    long : (x : Wrapped ℕ) → IsEntry (IsClaim tasks) r x → length (claim_spelling x) ≡ 2
    long (Plain t) h = refl
    long (Fault k) h = refl

    back : (x : Wrapped ℕ) → IsEntry (IsClaim tasks) r x → content_claim (claim_spelling x) ≡ x
    back (Plain t) h = refl
    back (Fault zero) h = absurd (omega (arith, h.0))
    back (Fault (suc k)) h = rw (above_zero k) refl

pub claim_test : (tasks r : ℕ) → IsTest 2 claim_spelling content_claim (IsEntry (IsClaim tasks) r) (is_claim_entry tasks r)
claim_test tasks r = record { passes = passes; valid = valid; restores = restores }
  where
    passes : (x : Wrapped ℕ) → IsEntry (IsClaim tasks) r x → is_claim_entry tasks r (claim_spelling x) ≡ true
    passes (Plain t) h = claim_fits tasks t h
    passes (Fault zero) h = absurd (omega (arith, h.0))
    passes (Fault (suc k)) h = let e : nat_le (suc k) r ≡ true = le-leb (suc k) r h.1 in rw (above_zero k, e) refl

    valid : (b : List ℕ) → length b ≡ 2 → AreBytes b → is_claim_entry tasks r b ≡ true → IsEntry (IsClaim tasks) r (content_claim b)
    valid (zero ∷ y ∷ []) l _ h = claim_valid tasks y h
    valid (suc k ∷ y ∷ []) l _ h =
        let t = rw (above_zero k) at h in
        rw (above_zero k) (omega arith, leb-true (suc k) r (and_parts _ _ t).0)
    valid [] l _ h = absurd (omega arith)
    valid (x ∷ []) l _ h = absurd (omega arith)
    valid (x ∷ y ∷ z ∷ rest) l _ h = absurd (omega arith)

    restores : (b : List ℕ) → length b ≡ 2 → AreBytes b → is_claim_entry tasks r b ≡ true → claim_spelling (content_claim b) ≡ b
    restores (zero ∷ y ∷ []) l _ h = refl
    restores (suc k ∷ y ∷ []) l _ h =
        let t = rw (above_zero k) at h in
        let e : y ≡ 0 = eqb-true y 0 (and_parts _ _ t).1 in
        rw (above_zero k, e) refl
    restores [] l _ h = absurd (omega arith)
    restores (x ∷ []) l _ h = absurd (omega arith)
    restores (x ∷ y ∷ z ∷ rest) l _ h = absurd (omega arith)

pub claim_at : (bytes : List ℕ) (k : ℕ) → content_claim (piece 2 bytes k) ≡ (if get_or bytes (2 * k) 0 == 0 then Plain (get_or bytes (2 * k + 1) 0) else Fault (get_or bytes (2 * k) 0))
claim_at bytes k =
    let a : get_or (piece 2 bytes k) 0 0 ≡ get_or bytes (2 * k) 0 = get_or-piece 2 bytes k 0 (lit< tt) ∙ ap (λ i. get_or bytes i 0) (add-zero (2 * k)) in
    let b : get_or (piece 2 bytes k) 1 0 ≡ get_or bytes (2 * k + 1) 0 = get_or-piece 2 bytes k 1 (lit< tt) in
    ap (λ t. if t == 0 then Plain (get_or (piece 2 bytes k) 1 0) else Fault t) a
    ∙ ap (λ v. if get_or bytes (2 * k) 0 == 0 then Plain v else Fault (get_or bytes (2 * k) 0)) b

-- ---- masks

-- two bytes hold each mask, and 0 is one
mask_within : (version x : ℕ) → x < mask_bound version → x < 2 ^ 16
mask_within version x h = within (version == 1) x h
  where
    within : (b : Bool) (x : ℕ) → x < (if b then 256 else 65536) → x < 2 ^ 16
    within true x h = omega arith
    within false x h = omega arith

mask_back : (version x : ℕ) → x < mask_bound version → from_be_bytes w16 (to_be_bytes w16 x) ≡ x
mask_back version x h = from_be_bytes-to_be_bytes_2 x (mask_within version x h)

pub mask_format : (version : ℕ) → IsFormat 2 (to_be_bytes w16) (from_be_bytes w16) (λ mask. mask < mask_bound version)
mask_format version = record { wide = lit< tt; long = λ x h. refl; back = mask_back version }

pub mask_test : (version : ℕ) → IsTest 2 (to_be_bytes w16) (from_be_bytes w16) (λ mask. mask < mask_bound version) (is_mask version)
mask_test version = record {
  passes = λ x h. ap (λ m. nat_lt m (mask_bound version)) (mask_back version x h) ∙ (Decides-ltb x (mask_bound version)).1 h;
  valid = λ b l h t. (Decides-ltb (from_be_bytes w16 b) (mask_bound version)).0 t;
  restores = λ b l h t. be_bytes_2 b (from_be_bytes w16 b) l h refl;
}

-- the mask at a place
abbrev mask_of : List ℕ → ℕ → ℕ
mask_of bytes k = from_be_bytes w16 (get_or bytes (2 * k) 0 ∷ get_or bytes (2 * k + 1) 0 ∷ [])

-- two bytes read as a mask
pub mask_read : (bytes : List ℕ) (k : ℕ) → from_be_bytes w16 (piece 2 bytes k) ≡ mask_of bytes k
mask_read bytes k =
    let a : get_or (piece 2 bytes k) 0 0 ≡ get_or bytes (2 * k) 0 = get_or-piece 2 bytes k 0 (lit< tt) ∙ ap (λ i. get_or bytes i 0) (add-zero (2 * k)) in
    let b : get_or (piece 2 bytes k) 1 0 ≡ get_or bytes (2 * k + 1) 0 = get_or-piece 2 bytes k 1 (lit< tt) in
    omega arith

mask_at : (version : ℕ) (bytes : List ℕ) (k : ℕ) → is_mask version (piece 2 bytes k) ≡ nat_lt (mask_of bytes k) (mask_bound version)
mask_at version bytes k = ap (λ m. nat_lt m (mask_bound version)) (mask_read bytes k)

masks_pass : (version : ℕ) (bytes : List ℕ) → ((k : ℕ) → k < length bytes / 2 → mask_of bytes k < mask_bound version) → are_masks version bytes ≡ true
masks_pass version bytes h = each_passes (is_mask version) 2 bytes (λ k l. mask_at version bytes k ∙ (Decides-ltb (mask_of bytes k) (mask_bound version)).1 (h k l))

masks_fail : (version : ℕ) (bytes : List ℕ) (k : ℕ) → k < length bytes / 2 → mask_bound version ≤ mask_of bytes k → are_masks version bytes ≡ false
masks_fail version bytes k l h = one_fails (is_mask version) 2 bytes k l (mask_at version bytes k ∙ le-ltb (mask_of bytes k) (mask_bound version) h)

-- any two bytes are a mask of version 2, and one of version 1 where the first is 0
pub all_masks : (version : ℕ) (bytes : List ℕ) → AreBytes bytes → version ≢ 1 → are_masks version bytes ≡ true
all_masks version bytes b h =
    let bound : mask_bound version ≡ 65536 = rw (ne_eqb version 1 h) refl in
    masks_pass version bytes (λ k l. let high : get_or bytes (2 * k) 0 < 256 = b (2 * k) in let low : get_or bytes (2 * k + 1) 0 < 256 = b (2 * k + 1) in rw bound (omega arith))

pub small_masks : (version : ℕ) (bytes : List ℕ) → AreBytes bytes → version ≡ 1 → ((k : ℕ) → k < length bytes / 2 → get_or bytes (2 * k) 0 ≡ 0) → are_masks version bytes ≡ true
small_masks version bytes b h zeros =
    let bound : mask_bound version ≡ 256 = rw (eq-eqb version 1 h) refl in
    masks_pass version bytes (λ k l. let high : get_or bytes (2 * k) 0 ≡ 0 = zeros k l in let low : get_or bytes (2 * k + 1) 0 < 256 = b (2 * k + 1) in rw bound (omega arith))

pub large_mask : (version : ℕ) (bytes : List ℕ) (k : ℕ) → k < length bytes / 2 → version ≡ 1 → get_or bytes (2 * k) 0 ≢ 0 → are_masks version bytes ≡ false
large_mask version bytes k l h some =
    let bound : mask_bound version ≡ 256 = rw (eq-eqb version 1 h) refl in
    masks_fail version bytes k l (rw bound (omega arith))

-- ---- values

pub value_fits : (number : ℤ) → IsValue number → fits_value number ≡ true
value_fits number h =
    let low : neg_ℤ (pos (2 ^ 42)) ≤ℤ number = h.low in
    let high : number ≤ℤ pos (2 ^ 42) = h.high in
    grind (arith, ints)

pub value_valid : (number : ℤ) → fits_value number ≡ true → IsValue number
value_valid number h =
    let low : int_le (neg_ℤ (pos (2 ^ 42))) number ≡ true = (and_parts (int_le (neg_ℤ (pos (2 ^ 42))) number) (int_le number (pos (2 ^ 42))) h).0 in
    let high : int_le number (pos (2 ^ 42)) ≡ true = (and_parts (int_le (neg_ℤ (pos (2 ^ 42))) number) (int_le number (pos (2 ^ 42))) h).1 in
    record { low = grind (arith, ints); high = grind (arith, ints) }

pub value_in_64 : (x : ℤ) → IsValue x → SFits w64 x
value_in_64 (pos n) h = let high : pos n ≤ℤ pos (2 ^ 42) = h.high in record { sfits = omega (arith, ints) }
value_in_64 (negsuc n) h = let low : neg_ℤ (pos (2 ^ 42)) ≤ℤ negsuc n = h.low in record { sfits = omega (arith, ints) }

unsigned_64 : (x : ℤ) → SFits w64 x → cast_unsigned w64 x < 2 ^ 64
unsigned_64 (pos n) h = let e = h.sfits in omega arith
unsigned_64 (negsuc n) h = omega arith

value_back : (x : ℤ) → IsValue x → content_value (value_spelling x) ≡ x
value_back x h =
    let f : SFits w64 x = value_in_64 x h in
    ap (cast_signed w64) (from_be_bytes-to_be_bytes_8 (cast_unsigned w64 x) (unsigned_64 x f)) ∙ to_z-of_z w64 x f

pub value_format : IsFormat 8 value_spelling content_value IsValue
value_format = record { wide = lit< tt; long = λ x h. refl; back = value_back }

from_64 : (b : List ℕ) → AreBytes b → from_be_bytes w64 b < 2 ^ 64
from_64 b h = omega (arith, h 0, h 1, h 2, h 3, h 4, h 5, h 6, h 7)

value_restored : (b : List ℕ) → length b ≡ 8 → AreBytes b → value_spelling (content_value b) ≡ b
value_restored b l h = be_bytes_8 b (cast_unsigned w64 (content_value b)) l h (of_z-to_z w64 (from_be_bytes w64 b) (from_64 b h))

pub value_test : IsTest 8 value_spelling content_value IsValue is_value
value_test = record { passes = passes; valid = λ b l h t. value_valid (content_value b) t; restores = λ b l h t. value_restored b l h }
  where
    passes : (x : ℤ) → IsValue x → is_value (value_spelling x) ≡ true
    passes x h = ap fits_value (value_back x h) ∙ value_fits x h

-- ---- rows

all_zeros : (bytes : List ℕ) (n : ℕ) → length bytes ≡ n → are_zero bytes ≡ true → bytes ≡ replicate n 0
all_zeros [] zero l h = refl
all_zeros [] (suc n) l h = absurd (omega arith)
all_zeros (b ∷ bs) zero l h = absurd (omega arith)
all_zeros (b ∷ bs) (suc n) l h =
    let e : b ≡ 0 = eqb-true b 0 (and_parts _ _ h).0 in
    let r : bs ≡ replicate n 0 = all_zeros bs n (omega arith) (and_parts _ _ h).1 in
    rw (e, r) refl

zeros_pass : (n : ℕ) → are_zero (replicate n 0) ≡ true
zeros_pass zero = refl
zeros_pass (suc n) = zeros_pass n

pub length-masks : (masks : List ℕ) → length (flat_map (to_be_bytes w16) masks) ≡ 2 * length masks
length-masks [] = refl
length-masks (x ∷ xs) = omega (arith, length-masks xs)

-- one mask more
pub masks_more : (masks : List ℕ) (j : ℕ) → j < length masks → flat_map (to_be_bytes w16) (take (j + 1) masks) ≡ flat_map (to_be_bytes w16) (take j masks) ++ to_be_bytes w16 (get_or masks j 0)
masks_more masks j h = ap (flat_map (to_be_bytes w16)) (take_more masks j 0 h) ∙ flat_map-append (to_be_bytes w16) (take j masks) (get_or masks j 0 ∷ [])

pub row_in_more : (capacity : ℕ) (masks : List ℕ) (j v : ℕ) → j < length masks → j < capacity → v ≡ get_or masks j 0
    → set (take j masks ++ replicate (capacity - j) 0) j v ≡ take (j + 1) masks ++ replicate (capacity - (j + 1)) 0
row_in_more capacity masks j v h l e =
    let n : capacity - j ≡ suc (capacity - (j + 1)) = omega arith in
    ap (λ c. set (take j masks ++ replicate c 0) j v) n
    ∙ set_at (take j masks) 0 (replicate (capacity - (j + 1)) 0) v j (length-take-le j masks (omega arith))
    ∙ ap (λ x. take j masks ++ x ∷ replicate (capacity - (j + 1)) 0) e
    ∙ sym (append_assoc (take j masks) (get_or masks j 0 ∷ []) (replicate (capacity - (j + 1)) 0))
    ∙ ap (λ xs. xs ++ replicate (capacity - (j + 1)) 0) (sym (take_more masks j 0 h))

any_mask : IsTest 2 (to_be_bytes w16) (from_be_bytes w16) (λ _. Unit {0}) (λ _. true)
any_mask = record { passes = λ x h. refl; valid = λ b l h t. tt; restores = λ b l h t. be_bytes_2 b (from_be_bytes w16 b) l h refl }

all_true : (bs : List (List ℕ)) → list_all (λ _. true) bs ≡ true
all_true [] = refl
all_true (b ∷ bs) = all_true bs

module _ (capacity nodes : ℕ) where
  masks_read : (bytes : List ℕ) → length bytes ≡ 2 * nodes → length (map (from_be_bytes w16) (pieces_of_width 2 bytes)) ≡ nodes
  masks_read bytes l =
      length-map (pieces_of_width 2 bytes) (from_be_bytes w16) ∙ length-map-range_with_len (piece 2 bytes) 0 (length bytes / 2)
      ∙ omega arith

  -- a row's bytes are told by the row, also where a mask is none of the version
  pub row_restored : (bytes : List ℕ) → length bytes ≡ 2 * nodes → AreBytes bytes → row_spelling nodes (content_row capacity nodes bytes) ≡ bytes
  row_restored bytes l b =
      let n : length (map (from_be_bytes w16) (pieces_of_width 2 bytes)) ≡ nodes = masks_read bytes l in
      let masks : List ℕ = map (from_be_bytes w16) (pieces_of_width 2 bytes) in
      let e : take nodes (take nodes masks ++ replicate (capacity - nodes) 0) ≡ take nodes masks = take_at (take nodes masks) (replicate (capacity - nodes) 0) nodes (length-take-le nodes masks (omega arith)) in
      ap (flat_map (to_be_bytes w16)) (e ∙ take_all nodes masks (omega arith))
      ∙ (restored 2 (to_be_bytes w16) (from_be_bytes w16) (λ _. Unit {0}) (λ _. true) (lit< tt) any_mask nodes bytes l b (all_true (pieces_of_width 2 bytes))).0

  -- an entry by its place
  pub relayed_row_at : (bytes : List ℕ) (k at : ℕ) → (1 + 2 * nodes) * k ≡ at
      → relayed_row_in capacity nodes (piece (1 + 2 * nodes) bytes k)
      ≡ (if get_or bytes at 0 == 0 then Plain (content_row capacity nodes (take (2 * nodes) (drop (at + 1) bytes))) else Fault (get_or bytes at 0))
  relayed_row_at bytes k at e =
      let a : get_or (piece (1 + 2 * nodes) bytes k) 0 0 ≡ get_or bytes at 0 = get_or-piece (1 + 2 * nodes) bytes k 0 (omega arith) ∙ ap (λ i. get_or bytes i 0) (omega arith) in
      let b : drop 1 (piece (1 + 2 * nodes) bytes k) ≡ take (2 * nodes) (drop (at + 1) bytes) =
      drop-take 1 (2 * nodes) (drop ((1 + 2 * nodes) * k) bytes) ∙ ap (take (2 * nodes)) (drop-drop 1 ((1 + 2 * nodes) * k) bytes ∙ ap (λ n. drop n bytes) (omega arith)) in
      ap (λ t. if t == 0 then Plain (content_row capacity nodes (drop 1 (piece (1 + 2 * nodes) bytes k))) else Fault t) a
      ∙ ap (λ bs. if get_or bytes at 0 == 0 then Plain (content_row capacity nodes bs) else Fault (get_or bytes at 0)) b

module _ (version capacity nodes : ℕ) where
  shown : (masks : List ℕ) → IsRow version capacity nodes masks → All (λ mask. mask < mask_bound version) (take nodes masks)
  shown masks h = All-take (λ mask. mask < mask_bound version) nodes masks h.within

  pub row_long : (masks : List ℕ) → IsRow version capacity nodes masks → length (row_spelling nodes masks) ≡ 2 * nodes
  row_long masks h =
      length_spelt 2 (to_be_bytes w16) (from_be_bytes w16) (λ mask. mask < mask_bound version) (mask_format version) (take nodes masks) (shown masks h)
      ∙ ap (λ n. 2 * n) (length-take-le nodes masks (omega (arith, h.whole, h.room)))

  pub row_back : (masks : List ℕ) → IsRow version capacity nodes masks → content_row capacity nodes (row_spelling nodes masks) ≡ masks
  row_back masks h =
      ap (λ ms. take nodes ms ++ replicate (capacity - nodes) 0) (read_spelt 2 (to_be_bytes w16) (from_be_bytes w16) (λ mask. mask < mask_bound version) (mask_format version) (take nodes masks) (shown masks h))
      ∙ ap (λ ms. ms ++ replicate (capacity - nodes) 0) (take-take nodes nodes masks (omega arith))
      ∙ ap (λ ms. take nodes masks ++ ms) (sym h.rest)
      ∙ take-append-drop nodes masks

  pub row_passes : (masks : List ℕ) → IsRow version capacity nodes masks → are_masks version (row_spelling nodes masks) ≡ true
  row_passes masks h = test_spelt 2 (to_be_bytes w16) (from_be_bytes w16) (λ mask. mask < mask_bound version) (is_mask version) (mask_format version) (mask_test version) (take nodes masks) (shown masks h)

  pub row_valid : (bytes : List ℕ) → nodes ≤ capacity → length bytes ≡ 2 * nodes → AreBytes bytes → are_masks version bytes ≡ true → IsRow version capacity nodes (content_row capacity nodes bytes)
  row_valid bytes few l b t =
      let n : length (map (from_be_bytes w16) (pieces_of_width 2 bytes)) ≡ nodes = masks_read capacity nodes bytes l in
      let zeros : List ℕ = replicate (capacity - nodes) 0 in
      let front : List ℕ = take nodes (map (from_be_bytes w16) (pieces_of_width 2 bytes)) in
      let lf : length front ≡ nodes = length-take-le nodes (map (from_be_bytes w16) (pieces_of_width 2 bytes)) (omega arith) in
      let small : All (λ mask. mask < mask_bound version) (map (from_be_bytes w16) (pieces_of_width 2 bytes)) = (restored 2 (to_be_bytes w16) (from_be_bytes w16) (λ mask. mask < mask_bound version) (is_mask version) (lit< tt) (mask_test version) nodes bytes l b t).1 in
      record {
        room = few;
        whole = length-append front zeros ∙ omega (arith, length-replicate {A = ℕ} (capacity - nodes) 0);
        within = All-append (λ mask. mask < mask_bound version) front zeros (All-take (λ mask. mask < mask_bound version) nodes (map (from_be_bytes w16) (pieces_of_width 2 bytes)) small) (All-replicate (λ mask. mask < mask_bound version) (capacity - nodes) 0 (zero_mask version));
        rest = drop_at front zeros nodes lf;
      }

  pub relayed_row_format : (r : ℕ) → IsFormat (1 + 2 * nodes) (relayed_row_spelling nodes) (relayed_row_in capacity nodes) (IsEntry (IsRow version capacity nodes) r)
  relayed_row_format r = record { wide = omega arith; long = long; back = back }
    where
      long : (x : Wrapped (List ℕ)) → IsEntry (IsRow version capacity nodes) r x → length (relayed_row_spelling nodes x) ≡ 1 + 2 * nodes
      long (Plain masks) h = omega (arith, row_long masks h)
      long (Fault k) h = omega (arith, length-replicate {A = ℕ} (2 * nodes) 0)

      back : (x : Wrapped (List ℕ)) → IsEntry (IsRow version capacity nodes) r x → relayed_row_in capacity nodes (relayed_row_spelling nodes x) ≡ x
      back (Plain masks) h = ap Plain (row_back masks h)
      back (Fault zero) h = absurd (omega (arith, h.0))
      back (Fault (suc k)) h = rw (above_zero k) refl

  pub relayed_row_test : (r : ℕ) → nodes ≤ capacity → IsTest (1 + 2 * nodes) (relayed_row_spelling nodes) (relayed_row_in capacity nodes) (IsEntry (IsRow version capacity nodes) r) (is_row_entry version r)
  relayed_row_test r few = record { passes = passes; valid = valid; restores = restores }
    where
      passes : (x : Wrapped (List ℕ)) → IsEntry (IsRow version capacity nodes) r x → is_row_entry version r (relayed_row_spelling nodes x) ≡ true
      passes (Plain masks) h = row_passes masks h
      passes (Fault zero) h = absurd (omega (arith, h.0))
      passes (Fault (suc k)) h = let e : nat_le (suc k) r ≡ true = le-leb (suc k) r h.1 in let z : are_zero (replicate (2 * nodes) 0) ≡ true = zeros_pass (2 * nodes) in rw (above_zero k, e, z) refl

      valid : (b : List ℕ) → length b ≡ 1 + 2 * nodes → AreBytes b → is_row_entry version r b ≡ true → IsEntry (IsRow version capacity nodes) r (relayed_row_in capacity nodes b)
      valid [] l b h = absurd (omega arith)
      valid (zero ∷ rest) l b h = row_valid rest few (omega arith) (AreBytes-drop 1 (zero ∷ rest) b) h
      valid (suc k ∷ rest) l b h =
          let t = rw (above_zero k) at h in
          rw (above_zero k) (omega arith, leb-true (suc k) r (and_parts _ _ t).0)

      restores : (b : List ℕ) → length b ≡ 1 + 2 * nodes → AreBytes b → is_row_entry version r b ≡ true → relayed_row_spelling nodes (relayed_row_in capacity nodes b) ≡ b
      restores [] l b h = absurd (omega arith)
      restores (zero ∷ rest) l b h = ap (λ s. 0 ∷ s) (row_restored capacity nodes rest (omega arith) (AreBytes-drop 1 (zero ∷ rest) b))
      restores (suc k ∷ rest) l b h =
          let t = rw (above_zero k) at h in
          let z : rest ≡ replicate (2 * nodes) 0 = all_zeros rest (2 * nodes) (omega arith) (and_parts _ _ t).1 in
          rw (above_zero k) (ap (λ s. suc k ∷ s) (sym z))

-- ---- entries and values as they are written

whole_pieces : (width n : ℕ) → n % width ≡ 0 → n ≡ width * (n / width)
whole_pieces width n h = omega (arith, div-add-mod n width)

tests_more : (p q : List ℕ → Bool) (width : ℕ) (bytes : List ℕ) → ((b : List ℕ) → length b ≤ width → p b ≡ true → q b ≡ true)
    → (ks : List ℕ) → list_all p (map (piece width bytes) ks) ≡ true → list_all q (map (piece width bytes) ks) ≡ true
tests_more p q width bytes h [] t = refl
tests_more p q width bytes h (k ∷ ks) t =
    let b : List ℕ = piece width bytes k in
    let here : q b ≡ true = h b (omega (arith, length-take width (drop (width * k) bytes))) (and_parts _ _ t).0 in
    let rest : list_all q (map (piece width bytes) ks) ≡ true = tests_more p q width bytes h ks (and_parts _ _ t).1 in
    rw (here, rest) refl

any_claim : IsTest 2 claim_spelling content_claim (λ _. Unit {0}) is_written
any_claim = record { passes = passes; valid = λ b l h t. tt; restores = restores }
  where
    passes : (x : Wrapped ℕ) → Unit {0} → is_written (claim_spelling x) ≡ true
    passes (Plain t) h = refl
    passes (Fault zero) h = refl
    passes (Fault (suc k)) h = rw (above_zero k) refl

    restores : (b : List ℕ) → length b ≡ 2 → AreBytes b → is_written b ≡ true → claim_spelling (content_claim b) ≡ b
    restores (zero ∷ y ∷ []) l _ h = refl
    restores (suc k ∷ y ∷ []) l _ h =
        let t = rw (above_zero k) at h in
        let e : y ≡ 0 = eqb-true y 0 (and_parts _ _ t).0 in
        rw (above_zero k, e) refl
    restores [] l _ h = absurd (omega arith)
    restores (x ∷ []) l _ h = absurd (omega arith)
    restores (x ∷ y ∷ z ∷ rest) l _ h = absurd (omega arith)

any_row : (capacity nodes : ℕ) → IsTest (1 + 2 * nodes) (relayed_row_spelling nodes) (relayed_row_in capacity nodes) (λ _. Unit {0}) is_written
any_row capacity nodes = record { passes = passes; valid = λ b l h t. tt; restores = restores }
  where
    passes : (x : Wrapped (List ℕ)) → Unit {0} → is_written (relayed_row_spelling nodes x) ≡ true
    passes (Plain masks) h = refl
    passes (Fault zero) h = refl
    passes (Fault (suc k)) h = rw (above_zero k) (zeros_pass (2 * nodes))

    restores : (b : List ℕ) → length b ≡ 1 + 2 * nodes → AreBytes b → is_written b ≡ true → relayed_row_spelling nodes (relayed_row_in capacity nodes b) ≡ b
    restores [] l b h = absurd (omega arith)
    restores (zero ∷ rest) l b h = ap (λ s. 0 ∷ s) (row_restored capacity nodes rest (omega arith) (AreBytes-drop 1 (zero ∷ rest) b))
    restores (suc k ∷ rest) l b h =
        let t = rw (above_zero k) at h in
        let z : rest ≡ replicate (2 * nodes) 0 = all_zeros rest (2 * nodes) (omega arith) t in
        rw (above_zero k) (ap (λ s. suc k ∷ s) (sym z))

any_value : IsTest 8 value_spelling content_value (λ _. Unit {0}) (λ _. true)
any_value = record { passes = λ x h. refl; valid = λ b l h t. tt; restores = λ b l h t. value_restored b l h }

-- the bytes of entries are told by what they say
pub claims_spelt : (bytes : List ℕ) → length bytes % 2 ≡ 0 → AreBytes bytes → are_written 2 bytes ≡ true → flat_map claim_spelling (content_claims bytes) ≡ bytes
claims_spelt bytes l b t = (restored 2 claim_spelling content_claim (λ _. Unit {0}) is_written (lit< tt) any_claim (length bytes / 2) bytes (whole_pieces 2 (length bytes) l) b t).0

pub rows_spelt : (capacity nodes : ℕ) (bytes : List ℕ) → length bytes % (1 + 2 * nodes) ≡ 0 → AreBytes bytes → are_written (1 + 2 * nodes) bytes ≡ true → flat_map (relayed_row_spelling nodes) (content_rows capacity nodes bytes) ≡ bytes
rows_spelt capacity nodes bytes l b t =
    (restored (1 + 2 * nodes) (relayed_row_spelling nodes) (relayed_row_in capacity nodes) (λ _. Unit {0}) is_written (omega arith) (any_row capacity nodes) (length bytes / (1 + 2 * nodes)) bytes (whole_pieces (1 + 2 * nodes) (length bytes) l) b t).0

pub values_spelt : (bytes : List ℕ) → length bytes % 8 ≡ 0 → AreBytes bytes → flat_map value_spelling (content_values bytes) ≡ bytes
values_spelt bytes l b = (restored 8 value_spelling content_value (λ _. Unit {0}) (λ _. true) (lit< tt) any_value (length bytes / 8) bytes (whole_pieces 8 (length bytes) l) b (all_true (pieces_of_width 8 bytes))).0

-- what is in range is written
claim_written : (tasks r : ℕ) (b : List ℕ) → length b ≤ 2 → is_claim_entry tasks r b ≡ true → is_written b ≡ true
claim_written tasks r [] l h = refl
claim_written tasks r (zero ∷ rest) l h = refl
claim_written tasks r (suc k ∷ []) l h = rw (above_zero k) refl
claim_written tasks r (suc k ∷ y ∷ []) l h =
    let t = rw (above_zero k) at h in
    let z : (y == 0) ≡ true = (and_parts _ _ t).1 in
    rw (above_zero k, z) refl
claim_written tasks r (suc k ∷ y ∷ z ∷ rest) l h = absurd (omega arith)

row_written : (version r : ℕ) (b : List ℕ) → is_row_entry version r b ≡ true → is_written b ≡ true
row_written version r [] h = refl
row_written version r (zero ∷ rest) h = refl
row_written version r (suc k ∷ rest) h =
    let t = rw (above_zero k) at h in
    rw (above_zero k) (and_parts _ _ t).1

pub claims_written : (tasks r : ℕ) (bytes : List ℕ) → list_all (is_claim_entry tasks r) (pieces_of_width 2 bytes) ≡ true → are_written 2 bytes ≡ true
claims_written tasks r bytes h = tests_more (is_claim_entry tasks r) is_written 2 bytes (claim_written tasks r) (range_with_len 0 (length bytes / 2)) h

pub rows_written : (version width r : ℕ) (bytes : List ℕ) → list_all (is_row_entry version r) (pieces_of_width width bytes) ≡ true → are_written width bytes ≡ true
rows_written version width r bytes h = tests_more (is_row_entry version r) is_written width bytes (λ b l t. row_written version r b t) (range_with_len 0 (length bytes / width)) h

-- so are spellings of entries in range
pub claims_written_spelt : (tasks r : ℕ) (xs : List (Wrapped ℕ)) → All (IsEntry (IsClaim tasks) r) xs → are_written 2 (flat_map claim_spelling xs) ≡ true
claims_written_spelt tasks r xs h =
    claims_written tasks r (flat_map claim_spelling xs) (test_spelt 2 claim_spelling content_claim (IsEntry (IsClaim tasks) r) (is_claim_entry tasks r) (claim_format tasks r) (claim_test tasks r) xs h)

pub rows_written_spelt : (version capacity nodes r : ℕ) (xs : List (Wrapped (List ℕ))) → nodes ≤ capacity → All (IsEntry (IsRow version capacity nodes) r) xs → are_written (1 + 2 * nodes) (flat_map (relayed_row_spelling nodes) xs) ≡ true
rows_written_spelt version capacity nodes r xs few h =
    rows_written version (1 + 2 * nodes) r (flat_map (relayed_row_spelling nodes) xs)
    (test_spelt (1 + 2 * nodes) (relayed_row_spelling nodes) (relayed_row_in capacity nodes) (IsEntry (IsRow version capacity nodes) r) (is_row_entry version r) (relayed_row_format version capacity nodes r) (relayed_row_test version capacity nodes r few) xs h)
