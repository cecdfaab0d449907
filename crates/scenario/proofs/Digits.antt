-- Pairs of digits: the byte of two of them, and that a text with another character has no bytes.
use Rattle.std.proofs.Common.{◌≡◌, ℕ, zero, suc, ◌+◌, ◌*◌, ◌/◌, ◌%◌, ◌<◌, Bool, true, false, ◌&&◌, ◌||◌, not, nat_eq, List, [], ◌∷◌, Option, Some, None, is_some, unwrap_or, Result, Ok, Err, bit_and, bit_or, refl, arith, inl, inr}
use Rattle.std.specs.List.{list_all}
use Rattle.std.specs.Result.{result_ok}
use Rattle.std.proofs.lemmas.Bool.{cases_eq, and_parts, eqb-true}
use Rattle.hex.specs.declared.error.FromHexError.{FromHexError}
use Rattle.hex.specs.Hex.{hex_digit_value, is_hex_digit, digit_or_error, pair_value, decode_pairs, ◌>>=◌}

-- the byte whose digits' codes are the two bytes of a word
abbrev values_in : ℕ → ℕ
values_in codes = bit_and codes 3855 + 9 * bit_and (codes / 64) 257

abbrev byte_in : ℕ → ℕ
byte_in codes = bit_and (bit_or (values_in codes * 16 % 65536) (values_in codes / 256)) 255

abbrev pub word_byte : ℕ → ℕ → ℕ
word_byte high low = byte_in (bit_or high (low * 256 % 65536))

-- the byte of two digits by their values
abbrev pub value_of : ℕ → ℕ
value_of code = unwrap_or (hex_digit_value code) 0

abbrev pub pair_byte : ℕ → ℕ → ℕ
pair_byte high low = value_of high * 16 + value_of low

each_below : (ℕ → Bool) → ℕ → Bool
each_below f zero = true
each_below f (suc n) = f n && each_below f n

each_at : (f : ℕ → Bool) (n : ℕ) → each_below f n ≡ true → (k : ℕ) → k < n → f k ≡ true
unfolding each_below
each_at f zero h k low = absurd (omega arith)
each_at f (suc n) h k low =
    let both = and_parts (f n) (each_below f n) h in
    elim (cases_eq k n) [ inl same ↦ rw same both.0 | inr other ↦ each_at f n both.1 k (omega arith) ]

held : (b c : Bool) → (not b || c) ≡ true → b ≡ true → c ≡ true
held true c h e = h
held false c h e = absurd cc

abbrev is_right : ℕ → ℕ → Bool
is_right high low = not (is_hex_digit low) || nat_eq (pair_byte high low) (word_byte high low)

abbrev are_right : ℕ → Bool
are_right high = not (is_hex_digit high) || each_below (is_right high) 256

all_right : each_below are_right 256 ≡ true
unfolding each_below
all_right = refl

-- the two are the same at digits
pub byte_of_digits : (high low : ℕ) → high < 256 → low < 256 → is_hex_digit high ≡ true → is_hex_digit low ≡ true → pair_byte high low ≡ word_byte high low
byte_of_digits high low fits fits-low is_high is_low =
    let row = held (is_hex_digit high) _ (each_at are_right 256 all_right high fits) is_high in
    eqb-true _ _ (held (is_hex_digit low) _ (each_at (is_right high) 256 row low fits-low) is_low)

both_read : (a b i j : ℕ) (o p : Option ℕ) → is_some o ≡ true → is_some p ≡ true
    → (digit_or_error a i o >>= (λ h. digit_or_error b j p >>= (λ l. Ok (h * 16 + l)))) ≡ Ok (unwrap_or o 0 * 16 + unwrap_or p 0)
both_read a b i j (Some x) (Some y) e f = refl
both_read a b i j None p e f = absurd cc
both_read a b i j (Some x) None e f = absurd cc

pub pair_of_digits : (high low place : ℕ) → is_hex_digit high ≡ true → is_hex_digit low ≡ true → pair_value high low place ≡ Ok (pair_byte high low)
pair_of_digits high low place is_high is_low = both_read high low place (place + 1) _ _ is_high is_low

no_pair : (a b i j : ℕ) (o p : Option ℕ) (all : Bool) (rest : Result (List ℕ) FromHexError) → (is_some o && (is_some p && all)) ≡ false → (all ≡ false → result_ok rest ≡ None)
    → result_ok ((digit_or_error a i o >>= (λ h. digit_or_error b j p >>= (λ l. Ok (h * 16 + l)))) >>= (λ byte. rest >>= (λ bytes. Ok (byte ∷ bytes)))) ≡ None
no_pair a b i j None p all rest h none = refl
no_pair a b i j (Some x) None all rest h none = refl
no_pair a b i j (Some x) (Some y) all (Err e) h none = refl
no_pair a b i j (Some x) (Some y) all (Ok bytes) h none = absurd (let is_none = none h in cc)

-- where a character is no digit, there are no bytes
pub no_bytes : (place : ℕ) (digits : List ℕ) → list_all is_hex_digit digits ≡ false → result_ok (decode_pairs place digits) ≡ None
unfolding decode_pairs
no_bytes place [] h = absurd cc
no_bytes place (digit ∷ []) h = refl
no_bytes place (high ∷ low ∷ rest) h = no_pair high low place (place + 1) _ _ _ (decode_pairs (place + 2) rest) h (no_bytes (place + 2) rest)
