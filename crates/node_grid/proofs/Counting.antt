-- Counts in planes of bits: one plane further, one addition further, and comparisons.
use Rattle.std.proofs.Common.{◌≡◌, ◌≢◌, ℕ, zero, suc, ◌+◌, ◌*◌, ◌/◌, ◌%◌, ◌^◌, ◌<◌, ◌≤◌, min, max, Bool, List, [], ◌∷◌, ◌++◌, length, take, get_or, set, bit_and, refl, sym, ap, ap₂, ◌∙◌, arith, length-take-le, take_all, pow_pos}
use Rattle.std.specs.Prelude.{◌==◌, nat_lt, bit_xor, bit_or}
use Rattle.std.specs.Int.{bit_at}
use Rattle.std.proofs.lemmas.List.{take_more, take_more_set}
use Rattle.std.proofs.lemmas.Nat.{mod-pow-add}
use Rattle.std.proofs.lemmas.Nat.Bits.{bit_at-lt, shr_and_one, bit_at_and, bit_at_or, bit_at_xor}
use Rattle.std.proofs.Math.Nat.{pow-suc}
use Rattle.node_grid.specs.Planes.{count_at}

-- one plane more at the end
count_at-end : (ps : List (List ℕ)) (p : List ℕ) (j k : ℕ) → count_at (ps ++ p ∷ []) j k ≡ count_at ps j k + 2 ^ length ps * bit_at (get_or p j 0) k
count_at-end [] p j k = omega arith
count_at-end (q ∷ ps) p j k =
    let before = count_at-end ps p j k in
    let double = pow-suc 2 (length ps) in
    let b : ℕ = bit_at (get_or p j 0) k in
    let twice : 2 ^ suc (length ps) * b ≡ 2 * (2 ^ length ps * b) = rw double (omega arith) in
    omega (arith, before, twice)

-- what the lowest i planes count
pub low-more : (ps : List (List ℕ)) (i j k : ℕ) → i < length ps → count_at (take (i + 1) ps) j k ≡ count_at (take i ps) j k + 2 ^ i * bit_at (get_or (get_or ps i []) j 0) k
low-more ps i j k h =
    ap (λ qs. count_at qs j k) (take_more ps i [] h) ∙ count_at-end (take i ps) (get_or ps i []) j k
    ∙ rw (length-take-le i ps (omega arith)) refl

pub low-set : (ps : List (List ℕ)) (i : ℕ) (p : List ℕ) (j k : ℕ) → i < length ps → count_at (take (i + 1) (set ps i p)) j k ≡ count_at (take i ps) j k + 2 ^ i * bit_at (get_or p j 0) k
low-set ps i p j k h =
    ap (λ qs. count_at qs j k) (take_more_set ps i p h) ∙ count_at-end (take i ps) p j k
    ∙ rw (length-take-le i ps (omega arith)) refl

pub count_at-lt : (ps : List (List ℕ)) (j k : ℕ) → count_at ps j k < 2 ^ length ps
count_at-lt [] j k = omega arith
count_at-lt (p ∷ ps) j k =
    let double = pow-suc 2 (length ps) in
    omega (arith, count_at-lt ps j k, bit_at-lt (get_or p j 0) k, double)

pub low-lt : (ps : List (List ℕ)) (i j k : ℕ) → i ≤ length ps → count_at (take i ps) j k < 2 ^ i
low-lt ps i j k h = let l = count_at-lt (take i ps) j k in rw (length-take-le i ps h) at l

-- the sum of two bits, and the carry
both_bits : (x y : ℕ) → x < 2 → y < 2 → (x + y) % 2 + 2 * min x y ≡ x + y
both_bits zero y h l = omega arith
both_bits (suc zero) zero h l = refl
both_bits (suc zero) (suc zero) h l = refl
both_bits (suc zero) (suc (suc y)) h l = absurd (omega arith)
both_bits (suc (suc x)) y h l = absurd (omega arith)

pub half_added : (a b k : ℕ) → bit_at (bit_xor a b) k + 2 * bit_at (bit_and a b) k ≡ bit_at a k + bit_at b k
half_added a b k = rw (bit_at_xor a b k, bit_at_and a b k) (omega (arith, both_bits (bit_at a k) (bit_at b k) (bit_at-lt a k) (bit_at-lt b k)))

-- a carry that goes on, and one that is none at the end
carried : (w sum before plane carry plane' carry' total : ℕ) → sum + w * carry ≡ before + total → plane' + 2 * carry' ≡ plane + carry
    → (sum + w * plane') + w * 2 * carry' ≡ (before + w * plane) + total
carried w sum before plane carry plane' carry' total h e =
    let f : w * plane' + w * 2 * carry' ≡ w * plane + w * carry = omega (arith, ap (λ z. w * z) e) in
    omega (arith, h, f)

-- one plane's step of an addition: below plane i the sum is right but for the carries, and from there on nothing has changed
pub added_next : (old new : List (List ℕ)) (sums carry carry' mask : List ℕ) (i j k : ℕ) → i < length old → i < length new → get_or new i [] ≡ get_or old i []
    → get_or sums j 0 ≡ bit_xor (get_or (get_or new i []) j 0) (get_or carry j 0) → get_or carry' j 0 ≡ bit_and (get_or (get_or new i []) j 0) (get_or carry j 0)
    → count_at (take i new) j k + 2 ^ i * bit_at (get_or carry j 0) k ≡ count_at (take i old) j k + bit_at (get_or mask j 0) k
    → count_at (take (i + 1) (set new i sums)) j k + 2 ^ (i + 1) * bit_at (get_or carry' j 0) k ≡ count_at (take (i + 1) old) j k + bit_at (get_or mask j 0) k
added_next old new sums carry carry' mask i j k in_old in_new same is_sum is_carry before =
    let word : ℕ = get_or (get_or old i []) j 0 in
    let half : bit_at (bit_xor word (get_or carry j 0)) k + 2 * bit_at (bit_and word (get_or carry j 0)) k ≡ bit_at word k + bit_at (get_or carry j 0) k = half_added word (get_or carry j 0) k in
    let twice : 2 ^ (i + 1) ≡ 2 ^ i * 2 = let e : i + 1 ≡ suc i = omega arith in ap (λ n. 2 ^ n) e ∙ pow-suc 2 i in
    rw (low-set new i sums j k in_new, low-more old i j k in_old, is_sum, is_carry, same, twice)
    (carried (2 ^ i) (count_at (take i new) j k) (count_at (take i old) j k) (bit_at word k) (bit_at (get_or carry j 0) k) _ _ (bit_at (get_or mask j 0) k) before half)

none_left : (new carry before bit : ℕ) → new + 32 * carry ≡ before + bit → before < 31 → bit < 2 → new ≡ before + bit
none_left new carry before bit h few one = omega arith

pub added_all : (old new : List (List ℕ)) (carry mask : List ℕ) (i j k : ℕ) → i ≡ 5 → length old ≡ 5 → length new ≡ 5
    → count_at (take i new) j k + 2 ^ i * bit_at (get_or carry j 0) k ≡ count_at (take i old) j k + bit_at (get_or mask j 0) k
    → count_at old j k < 31 → count_at new j k ≡ count_at old j k + bit_at (get_or mask j 0) k
added_all old new carry mask i j k five old_five new_five sum room =
    let whole_old : take i old ≡ old = take_all i old (omega arith) in
    let whole_new : take i new ≡ new = take_all i new (omega arith) in
    let power : 2 ^ i ≡ 32 = ap (λ n. 2 ^ n) five in
    let known : count_at new j k + 32 * bit_at (get_or carry j 0) k ≡ count_at old j k + bit_at (get_or mask j 0) k =
    sym (ap₂ (λ ps w. count_at ps j k + w * bit_at (get_or carry j 0) k) whole_new power) ∙ sum ∙ ap (λ ps. count_at ps j k + bit_at (get_or mask j 0) k) whole_old in
    none_left (count_at new j k) (bit_at (get_or carry j 0) k) (count_at old j k) (bit_at (get_or mask j 0) k) known room (bit_at-lt (get_or mask j 0) k)

-- one bit more of two numbers decides where it differs
pub above_one : (a l w x y : ℕ) → l < w → x < w → y < 2 → a < 2 → (a == 1) ≡ nat_lt l x → (min a y == 1) ≡ nat_lt (l + w * 1) (x + w * y)
above_one a l w x zero few less h i e = by_small a (min a 0 == 1) e
  where
    by_small : (a : ℕ) → (b : Bool) → (a == 1) ≡ nat_lt l x → (min a 0 == 1) ≡ nat_lt (l + w * 1) (x + w * 0)
    by_small a b e = grind arith
above_one a l w x (suc zero) few less h i e = grind arith
above_one a l w x (suc (suc y)) few less h i e = absurd (omega arith)

pub above_zero : (a l w x y : ℕ) → l < w → x < w → y < 2 → a < 2 → (a == 1) ≡ nat_lt l x → (max a y == 1) ≡ nat_lt (l + w * 0) (x + w * y)
above_zero a l w x zero few less h i e = grind arith
above_zero a l w x (suc zero) few less h i e = grind arith
above_zero a l w x (suc (suc y)) few less h i e = absurd (omega arith)

mod-lt-pow : (n i : ℕ) → n % 2 ^ i < 2 ^ i
mod-lt-pow n i = let p = pow_pos i in omega arith

limit-next : (limit i : ℕ) → limit % 2 ^ (i + 1) ≡ limit % 2 ^ i + 2 ^ i * bit_at limit i
limit-next limit i =
    let e : i + 1 ≡ 1 + i = omega arith in
    ap (λ n. limit % 2 ^ n) e ∙ mod-pow-add limit 1 i ∙ omega arith

-- the comparison of the lowest planes, one plane further
pub above_next_one : (planes : List (List ℕ)) (limit above i j k : ℕ) → i < length planes → bit_and (limit / 2 ^ i) 1 ≡ 1
    → (bit_at above k == 1) ≡ nat_lt (limit % 2 ^ i) (count_at (take i planes) j k)
    → (bit_at (bit_and above (get_or (get_or planes i []) j 0)) k == 1) ≡ nat_lt (limit % 2 ^ (i + 1)) (count_at (take (i + 1) planes) j k)
above_next_one planes limit above i j k within set before =
    let word : ℕ = get_or (get_or planes i []) j 0 in
    let one : bit_at limit i ≡ 1 = sym (shr_and_one limit i) ∙ set in
    rw (bit_at_and above word k, limit-next limit i, low-more planes i j k within, one)
    (above_one (bit_at above k) (limit % 2 ^ i) (2 ^ i) (count_at (take i planes) j k) (bit_at word k)
    (mod-lt-pow limit i) (low-lt planes i j k (omega arith)) (bit_at-lt word k) (bit_at-lt above k) before)

pub above_next_zero : (planes : List (List ℕ)) (limit above i j k : ℕ) → i < length planes → bit_and (limit / 2 ^ i) 1 ≢ 1
    → (bit_at above k == 1) ≡ nat_lt (limit % 2 ^ i) (count_at (take i planes) j k)
    → (bit_at (bit_or above (get_or (get_or planes i []) j 0)) k == 1) ≡ nat_lt (limit % 2 ^ (i + 1)) (count_at (take (i + 1) planes) j k)
above_next_zero planes limit above i j k within clear before =
    let word : ℕ = get_or (get_or planes i []) j 0 in
    let none : bit_at limit i ≡ 0 = let e = shr_and_one limit i in let l = bit_at-lt limit i in let n : bit_at limit i ≢ 1 = λ q. clear (e ∙ q) in omega arith in
    rw (bit_at_or above word k, limit-next limit i, low-more planes i j k within, none)
    (above_zero (bit_at above k) (limit % 2 ^ i) (2 ^ i) (count_at (take i planes) j k) (bit_at word k)
    (mod-lt-pow limit i) (low-lt planes i j k (omega arith)) (bit_at-lt word k) (bit_at-lt above k) before)

pub above_all : (planes : List (List ℕ)) (limit i j k : ℕ) → i ≡ 5 → length planes ≡ 5 → limit ≤ 31
    → nat_lt (limit % 2 ^ i) (count_at (take i planes) j k) ≡ nat_lt limit (count_at planes j k)
above_all planes limit i j k five wide small =
    let whole : take i planes ≡ planes = take_all i planes (omega arith) in
    let power : 2 ^ i ≡ 32 = ap (λ n. 2 ^ n) five in
    let same : limit % 2 ^ i ≡ limit = ap (λ w. limit % w) power ∙ omega arith in
    ap₂ (λ l ps. nat_lt l (count_at ps j k)) same whole
