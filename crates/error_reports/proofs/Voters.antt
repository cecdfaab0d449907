-- How many rows count on a node, and what a row without its node's own mask adds.
use Rattle.node_grid.specs.ListLaws.{count-more, bit_le, half_less}
use Rattle.std.proofs.lemmas.Bool.{le-ltb}
use Rattle.std.proofs.Common.{◌≡◌, ◌≢◌, ℕ, zero, suc, ◌+◌, ◌<◌, ◌≤◌, Bool, true, false, cond, not, ◌&&◌, ◌||◌, List, [], ◌∷◌, ◌++◌, length, get_or, set, refl, sym, ap, ap₂, subst, ◌∙◌, arith, eq-eqb, get_or-set_other, Option, Some, None, ne_eqb, eqb-true}
use Rattle.std.specs.Prelude.{◌==◌, ◌/◌, nat_lt, is_some}
use Rattle.std.specs.Option.{option_copied}
use Rattle.std.proofs.Common.{Bor}
use Rattle.std.specs.List.{filter, range_with_len}
use Rattle.std.specs.Int.{bit_at}
use Rattle.std.proofs.lemmas.Nat.Bits.{bit_at-lt, bit_at-zero}
use Rattle.node_grid.specs.NodeSet.{has_id, IsIdSet}
use Rattle.node_grid.specs.Count.{count, bit}
use Rattle.node_grid.specs.Matrix.{row_at}
use Rattle.node_grid.specs.Planes.{count_at, more_mask}
use Rattle.node_grid.specs.MaskLaws.{same_masks}
use Rattle.error_reports.specs.Charge.{accuses, is_row, is_sender, row_accuses, is_voter, is_accuser, charged, charged_mask}

apart_below : (p : ℕ → Bool) (a n j : ℕ) → j < a → has_id (filter p (range_with_len a n)) j ≡ false
apart_below p a zero j h = refl
apart_below p a (suc n) j h = by (filter p (range_with_len (a + 1) n)) (apart_below p (a + 1) n j (omega arith)) (p a)
  where
    by : (rest : List ℕ) → has_id rest j ≡ false → (b : Bool) → has_id (cond b (a ∷ rest) rest) j ≡ false
    by rest none true = rw (ne_eqb a j (λ e. omega arith)) none
    by rest none false = none

-- of those that pass, all but j
all_but : (t p : ℕ → Bool) (a n j : ℕ)
    → count (λ q. not (q == j) && t q) (filter p (range_with_len a n)) + bit (has_id (filter p (range_with_len a n)) j && t j) ≡ count t (filter p (range_with_len a n))
all_but t p a zero j = refl
all_but t p a (suc n) j = by (filter p (range_with_len (a + 1) n)) (all_but t p (a + 1) n j) (apart_below p (a + 1) n j) (p a)
  where
    first : (rest : List ℕ) → count (λ q. not (q == j) && t q) rest + bit (has_id rest j && t j) ≡ count t rest → (j < a + 1 → has_id rest j ≡ false)
        → (b : Bool) → (a == j) ≡ b → bit (not b && t a) + count (λ q. not (q == j) && t q) rest + bit ((b || has_id rest j) && t j) ≡ bit (t a) + count t rest
    first rest before apart true e =
        let known : count (λ q. not (q == j) && t q) rest + bit (false && t j) ≡ count t rest = rw (apart (omega (arith, eqb-true a j e))) at before in
        omega (arith, known, ap (λ x. bit (t x)) (eqb-true a j e))
    first rest before apart false e = omega (arith, before)

    by : (rest : List ℕ) → count (λ q. not (q == j) && t q) rest + bit (has_id rest j && t j) ≡ count t rest → (j < a + 1 → has_id rest j ≡ false)
        → (b : Bool) → count (λ q. not (q == j) && t q) (cond b (a ∷ rest) rest) + bit (has_id (cond b (a ∷ rest) rest) j && t j) ≡ count t (cond b (a ∷ rest) rest)
    by rest before apart true = first rest before apart (a == j) refl
    by rest before apart false = before

-- a node's own row doesn't count on it
pub voters_but : (n : ℕ) (rows : List (Option (List ℕ))) (members : List ℕ) (j : ℕ) → IsIdSet n members
    → count (is_voter rows j) members + bit (has_id members j && is_sender rows j) ≡ count (is_sender rows) members
voters_but n rows members j ids =
    let set_of : List ℕ → Type 0 = λ s. count (is_voter rows j) s + bit (has_id s j && is_sender rows j) ≡ count (is_sender rows) s in
    subst set_of (sym ids) (all_but (is_sender rows) (has_id members) 0 n j)

bit_back : (x : ℕ) → x < 2 → bit (x == 1) ≡ x
bit_back zero h = refl
bit_back (suc zero) h = refl
bit_back (suc (suc x)) h = absurd (omega arith)

zeroed : (row : List ℕ) (q : ℕ) → get_or (set row q 0) q 0 ≡ 0
zeroed [] q = refl
zeroed (x ∷ row) zero = refl
zeroed (x ∷ row) (suc q) = zeroed row q

-- what the row of node q adds, its mask of q itself put to 0
row_adds : (rows : List (Option (List ℕ))) (row : List ℕ) (j k q : ℕ) → row_at rows q ≡ Some row
    → bit (is_accuser rows j k q) ≡ bit_at (get_or (set row q 0) j 0) k
row_adds rows row j k q at = by (q == j) refl
  where
    by : (b : Bool) → (q == j) ≡ b → bit (not b && row_accuses (row_at rows q) j k) ≡ bit_at (get_or (set row q 0) j 0) k
    by true e = rw (sym (eqb-true q j e), zeroed row q) (sym (bit_at-zero k))
    by false e =
        let ne : j ≢ q = λ s. let t : (q == j) ≡ true = eq-eqb q j (sym s) in cc in
        rw (at, get_or-set_other row q j 0 0 ne) (bit_back (bit_at (get_or row j 0) k) (bit_at-lt (get_or row j 0) k))

no_row : (rows : List (Option (List ℕ))) (j k q : ℕ) → row_at rows q ≡ None → is_accuser rows j k q ≡ false
no_row rows j k q none = rw none (and_false (not (q == j)))
  where
    and_false : (b : Bool) → (b && false) ≡ false
    and_false true = refl
    and_false false = refl

-- one member more, with a row and without
pub accusers_more : (rows : List (Option (List ℕ))) (row seen : List ℕ) (j k q before after : ℕ) → row_at rows q ≡ Some row
    → before ≡ count (is_accuser rows j k) seen → after ≡ before + bit_at (get_or (set row q 0) j 0) k → after ≡ count (is_accuser rows j k) (seen ++ q ∷ [])
accusers_more rows row seen j k q before after at is more =
    omega (arith, is, more, count-more (is_accuser rows j k) seen q, row_adds rows row j k q at)

pub accusers_same : (rows : List (Option (List ℕ))) (seen : List ℕ) (j k q before : ℕ) → row_at rows q ≡ None
    → before ≡ count (is_accuser rows j k) seen → before ≡ count (is_accuser rows j k) (seen ++ q ∷ [])
accusers_same rows seen j k q before none is = omega (arith, is, count-more (is_accuser rows j k) seen q, ap bit (no_row rows j k q none))

pub senders_more : (rows : List (Option (List ℕ))) (row seen : List ℕ) (q before : ℕ) → row_at rows q ≡ Some row
    → before ≡ count (is_sender rows) seen → before + 1 ≡ count (is_sender rows) (seen ++ q ∷ [])
senders_more rows row seen q before at is = omega (arith, is, count-more (is_sender rows) seen q, ap (λ r. bit (is_row r)) at)

pub senders_same : (rows : List (Option (List ℕ))) (seen : List ℕ) (q before : ℕ) → row_at rows q ≡ None
    → before ≡ count (is_sender rows) seen → before ≡ count (is_sender rows) (seen ++ q ∷ [])
senders_same rows seen q before none is = omega (arith, is, count-more (is_sender rows) seen q, ap (λ r. bit (is_row r)) none)

pub accusers_few : (rows : List (Option (List ℕ))) (seen : List ℕ) (j k : ℕ) → count (is_accuser rows j k) seen ≤ length seen
accusers_few rows [] j k = omega arith
accusers_few rows (q ∷ seen) j k = omega (arith, accusers_few rows seen j k, bit_le (is_accuser rows j k q))

-- whether a row was found
pub is_row_found : (o : Option (Bor (List ℕ))) (r : Option (List ℕ)) → option_copied o ≡ r → is_row r ≡ is_some o
is_row_found None r e = rw (sym e) refl
is_row_found (Some x) r e = rw (sym e) refl

-- its own row is there, or isn't
pub voters_with : (n : ℕ) (rows : List (Option (List ℕ))) (members : List ℕ) (j senders : ℕ) → IsIdSet n members → senders ≡ count (is_sender rows) members
    → has_id members j ≡ true → is_sender rows j ≡ true → senders ≡ count (is_voter rows j) members + 1
voters_with n rows members j senders ids are member sends =
    let own : bit (has_id members j && is_sender rows j) ≡ 1 = rw (member, sends) refl in
    omega (arith, voters_but n rows members j ids, own, are)

pub voters_without : (n : ℕ) (rows : List (Option (List ℕ))) (members : List ℕ) (j senders : ℕ) → IsIdSet n members → senders ≡ count (is_sender rows) members
    → (has_id members j && is_sender rows j) ≡ false → senders ≡ count (is_voter rows j) members
voters_without n rows members j senders ids are none = omega (arith, voters_but n rows members j ids, ap bit none, are)

pub voters_few : (rows : List (Option (List ℕ))) (members : List ℕ) (j : ℕ) → count (is_voter rows j) members ≤ count (is_sender rows) members
voters_few rows [] j = omega arith
voters_few rows (q ∷ members) j = omega (arith, voters_few rows members j, one (q == j) (is_sender rows q))
  where
    one : (b s : Bool) → bit (not b && s) ≤ bit s
    one true s = omega arith
    one false s = omega arith

accusers_sent : (rows : List (Option (List ℕ))) (members : List ℕ) (j k : ℕ) → count (is_accuser rows j k) members ≤ count (is_sender rows) members
accusers_sent rows [] j k = omega arith
accusers_sent rows (q ∷ members) j k = omega (arith, accusers_sent rows members j k, one (q == j) (row_at rows q))
  where
    one : (b : Bool) (r : Option (List ℕ)) → bit (not b && row_accuses r j k) ≤ bit (is_row r)
    one true r = omega arith
    one false None = omega arith
    one false (Some row) = bit_le (accuses row j k)

-- with half of the voters as the limit, the kinds above it are those that the node is charged with
pub charged_above : (planes : List (List ℕ)) (rows : List (Option (List ℕ))) (members : List ℕ) (j limit : ℕ) → limit ≡ count (is_voter rows j) members / 2
    → ((k : ℕ) → k < 16 → count_at planes j k ≡ count (is_accuser rows j k) members) → more_mask planes j limit ≡ charged_mask rows members j
unfolding more_mask charged
charged_above planes rows members j limit half counts =
    same_masks (λ k. nat_lt limit (count_at planes j k)) (charged rows members j) 16
    (λ k few. ap₂ nat_lt half (counts k few) ∙ half_less (count (is_voter rows j) members) (count (is_accuser rows j k) members))

-- no count is above 31
pub charged_none : (planes : List (List ℕ)) (rows : List (Option (List ℕ))) (members : List ℕ) (j limit : ℕ) → limit ≡ 31 → count (is_sender rows) members ≤ 16
    → ((k : ℕ) → k < 16 → count_at planes j k ≡ count (is_accuser rows j k) members) → more_mask planes j limit ≡ 0
unfolding more_mask
charged_none planes rows members j limit all few counts =
    same_masks (λ k. nat_lt limit (count_at planes j k)) (λ k. false) 16
    (λ k low. le-ltb limit (count_at planes j k) (omega (arith, counts k low, accusers_sent rows members j k)))
