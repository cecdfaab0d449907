-- Inboxes over one room, and what is seen of them.
use Rattle.std.proofs.Common.{◌≡◌, ◌≢◌, ℕ, zero, suc, ◌<◌, ◌≤◌, ◌+◌, ◌*◌, true, false, List, [], ◌∷◌, length, get_or, set, map, replicate, take, drop, refl, sym, ap, ◌∙◌, subst, arith, inl, inr, zero-add}
use Rattle.std.specs.Prelude.{nat_lt}
use Rattle.std.proofs.lemmas.Bool.{cases_eq, cases_lt, cond-true, cond-false}
use Rattle.std.proofs.lemmas.Bool.Decides.{nat_tests}
use Rattle.std.proofs.lemmas.List.{get_or-set_same, get_or-set_other, get_or_default, set_past, length-set, length-drop, length-take-le, same_lists}
use Rattle.std.proofs.lemmas.Nat.{mul-le}
use Rattle.error_detect.specs.declared.finding.Finding.{Finding}
use Rattle.error_detect.specs.declared.arrival.Inbox.{Inbox}
use Rattle.error_detect.specs.declared.arrival.Inbox.TheVariants.{Empty, One, TooLong, Several}
use Rattle.error_detect.specs.Inside.{held_in, held_from, FitsIn, AllFit, KeepsNone, is_kept, is_empty, kept_len, forgotten, bytes_in, StandsAt}
use Rattle.error_detect.specs.Putting.{IsPut}
use Rattle.error_detect.specs.Watching.{Held, held_none, held_bytes, held_long, held_many, Boxes, held_at, filled, with_held}

-- ---- one by one

pub length-held : (part : ℕ) (room : List ℕ) (k : ℕ) (is : List Inbox) → length (held_from part room k is) ≡ length is
length-held part room k [] = refl
length-held part room k (i ∷ is) = ap suc (length-held part room (suc k) is)

held-from : (part : ℕ) (room : List ℕ) (k j : ℕ) (is : List Inbox) → get_or (held_from part room k is) j held_none ≡ held_in room ((k + j) * part) (get_or is j Empty)
held-from part room k j [] = refl
held-from part room k zero (i ∷ is) = let e : k ≡ k + 0 = omega arith in ap (λ n. held_in room (n * part) i) e
held-from part room k (suc j) (i ∷ is) =
    let e : suc k + j ≡ k + suc j = omega arith in
    held-from part room (suc k) j is ∙ ap (λ n. held_in room (n * part) (get_or is j Empty)) e

-- what is held of one sender
pub held-of : (part : ℕ) (room : List ℕ) (j : ℕ) (is : List Inbox) → get_or (held_from part room 0 is) j held_none ≡ held_in room (j * part) (get_or is j Empty)
held-of part room j is = held-from part room 0 j is ∙ ap (λ n. held_in room (n * part) (get_or is j Empty)) (zero-add j)

pub held_here : (part : ℕ) (room : List ℕ) (j : ℕ) (is : List Inbox) (i : Inbox) → j < length is → i ≡ get_or is j i → get_or (held_from part room 0 is) j held_none ≡ held_in room (j * part) i
held_here part room j is i within at = held-of part room j is ∙ ap (held_in room (j * part)) (get_or_default is j Empty i within ∙ sym at)

-- ---- one inbox more

-- a part ends where the next one begins
pub part_below : (part j q : ℕ) → j < q → j * part + part ≤ q * part
part_below part j q h = let p : suc j * part ≤ q * part = mul-le (suc j) part q part (omega (arith, h)) (omega arith) in omega (arith, p)

-- what is put into one part of a room changes no other part
pub other_part : (part q j : ℕ) (bytes old new : List ℕ) (i : Inbox) → IsPut (q * part) bytes old new → length bytes ≤ part → j ≢ q → FitsIn part (length old) (j * part) i → held_in new (j * part) i ≡ held_in old (j * part) i
other_part part q j bytes old new Empty put short other fits = refl
other_part part q j bytes old new (One kept) put short other fits = elim (cases_lt j q) [
  | inl below ↦ ap (λ b. held_bytes kept.tick b kept.found) (put.before (j * part) kept.len fits.1 (omega (arith, fits.0, part_below part j q below)))
  | inr above ↦
      let past : q < j = omega (arith, above, other) in
      ap (λ b. held_bytes kept.tick b kept.found) (put.behind (j * part) kept.len fits.1 (omega (arith, short, part_below part q j past)))
]
other_part part q j bytes old new (TooLong tick) put short other fits = refl
other_part part q j bytes old new Several put short other fits = refl

-- one inbox is another one, and what the others hold stays
pub held_set : (part : ℕ) (old new : List ℕ) (q : ℕ) (is : List Inbox) (i : Inbox) → q < length is → ((j : ℕ) → j ≢ q → held_in new (j * part) (get_or is j Empty) ≡ held_in old (j * part) (get_or is j Empty))
    → held_from part new 0 (set is q i) ≡ set (held_from part old 0 is) q (held_in new (q * part) i)
held_set part old new q is i within rest =
    let xs : List Held = held_from part new 0 (set is q i) in
    let was : List Held = held_from part old 0 is in
    let ys : List Held = set was q (held_in new (q * part) i) in
    let long : length xs ≡ length is = length-held part new 0 (set is q i) ∙ length-set is q i in
    let wide : length was ≡ length is = length-held part old 0 is in
    let ends : length ys ≡ length is = length-set was q (held_in new (q * part) i) ∙ wide in
    let at : (j : ℕ) → get_or xs j held_none ≡ get_or ys j held_none =
    λ j. elim (cases_eq j q) [
      | inl here ↦
          held-of part new j (set is q i)
          ∙ ap (λ n. held_in new (n * part) (get_or (set is q i) n Empty)) here
          ∙ ap (held_in new (q * part)) (get_or-set_same is q i Empty within)
          ∙ sym (ap (λ n. get_or ys n held_none) here ∙ get_or-set_same was q (held_in new (q * part) i) held_none (omega (arith, wide, within)))
      | inr other ↦
          held-of part new j (set is q i)
          ∙ ap (held_in new (j * part)) (get_or-set_other is q j i Empty other)
          ∙ rest j other
          ∙ sym (get_or-set_other was q j (held_in new (q * part) i) held_none other ∙ held-of part old j is)
    ] in
    same_lists xs ys (long ∙ sym ends) (λ k d low. get_or_default xs k d held_none low ∙ at k ∙ get_or_default ys k held_none d (omega (arith, low, long, ends)))

pub fits_more : (part at old new : ℕ) (i : Inbox) → FitsIn part old at i → old ≤ new → FitsIn part new at i
fits_more part at old new Empty fits more = tt
fits_more part at old new (One kept) fits more = (fits.0, omega (arith, fits.1, more))
fits_more part at old new (TooLong tick) fits more = tt
fits_more part at old new Several fits more = tt

pub fit_set : (part old new q : ℕ) (is : List Inbox) (i : Inbox) → AllFit part old is → old ≤ new → FitsIn part new (q * part) i → AllFit part new (set is q i)
fit_set part old new q is i all more fits j = elim (cases_lt q (length is)) [
  | inl within ↦ elim (cases_eq j q) [
    | inl here ↦
        subst (λ (n : ℕ). FitsIn part new (n * part) (get_or (set is q i) n Empty)) (sym here)
        (subst (FitsIn part new (q * part)) (sym (get_or-set_same is q i Empty within)) fits)
    | inr other ↦ subst (FitsIn part new (j * part)) (sym (get_or-set_other is q j i Empty other)) (fits_more part (j * part) old new (get_or is j Empty) (all j) more)
  ]
  | inr past ↦
      subst (λ (xs : List Inbox). FitsIn part new (j * part) (get_or xs j Empty)) (sym (set_past is q i past)) (fits_more part (j * part) old new (get_or is j Empty) (all j) more)
]

-- ---- a delivery

-- in an inbox that isn't empty there are several then
after_some : (room : List ℕ) (at part tick : ℕ) (bytes : List ℕ) (found : Finding) (i : Inbox) → is_empty i ≡ false → with_held part (held_in room at i) tick bytes found ≡ held_many
after_some room at part tick bytes found Empty some = absurd (cc)
after_some room at part tick bytes found (One kept) some = refl
after_some room at part tick bytes found (TooLong t) some = refl
after_some room at part tick bytes found Several some = refl

none_in : (room : List ℕ) (at : ℕ) (i : Inbox) → is_empty i ≡ true → held_in room at i ≡ held_none
none_in room at Empty none = refl
none_in room at (One kept) none = absurd (cc)
none_in room at (TooLong t) none = absurd (cc)
none_in room at Several none = absurd (cc)

-- inboxes over a room, and one of them
module _ (part : ℕ) (room : List ℕ) (is : List Inbox) (q : ℕ) (i : Inbox) (within : q < length is) (here : i ≡ get_or is q i) where
  abbrev seen : List Inbox → List ℕ → Boxes
  seen inboxes bytes = record { frame_max = part; held = held_from part bytes 0 inboxes }

  held_now : held_at (seen is room) q ≡ held_in room (q * part) i
  held_now = held_here part room q is i within here

  abbrev with_at : Held → Boxes
  with_at h = record { frame_max = part; held = set (held_from part room 0 is) q h }

  only : (new : Inbox) → held_from part room 0 (set is q new) ≡ set (held_from part room 0 is) q (held_in room (q * part) new)
  only new = held_set part room room q is new within (λ j other. refl)

  pub filled_several : (tick : ℕ) (bytes : List ℕ) (found : Finding) → is_empty i ≡ false → seen (set is q Several) room ≡ filled (seen is room) q tick bytes found
  filled_several tick bytes found some =
      ap (λ hs. record { frame_max = part; held = hs }) (only Several)
      ∙ ap with_at (sym (ap (λ h. with_held part h tick bytes found) held_now ∙ after_some room (q * part) part tick bytes found i some))

  pub filled_long : (tick : ℕ) (bytes : List ℕ) (found : Finding) → is_empty i ≡ true → part < length bytes → seen (set is q (TooLong tick)) room ≡ filled (seen is room) q tick bytes found
  filled_long tick bytes found none long =
      let more : nat_lt part (length bytes) ≡ true = longer part (length bytes) long in
      ap (λ hs. record { frame_max = part; held = hs }) (only (TooLong tick))
      ∙ ap with_at (sym (ap (λ h. with_held part h tick bytes found) (held_now ∙ none_in room (q * part) i none) ∙ cond-true (nat_lt part (length bytes)) (held_long tick) (held_bytes tick bytes found) more))
    where
      longer : (a b : ℕ) → a < b → nat_lt a b ≡ true
      longer a b h = grind (arith, nat_tests)

  pub filled_one : (tick : ℕ) (bytes new : List ℕ) (found : Finding) → is_empty i ≡ true → length bytes ≤ part → AllFit part (length room) is → IsPut (q * part) bytes room new
      → seen (set is q (One (record { tick = tick; len = length bytes; found = found }))) new ≡ filled (seen is room) q tick bytes found
  filled_one tick bytes new found none short all put =
      let one : Inbox = One (record { tick = tick; len = length bytes; found = found }) in
      let less : nat_lt part (length bytes) ≡ false = no_longer part (length bytes) short in
      ap (λ hs. record { frame_max = part; held = hs }) (held_set part room new q is one within (λ j other. other_part part q j bytes room new (get_or is j Empty) put short other (all j)))
      ∙ ap with_at (ap (λ b. held_bytes tick b found) put.has.there
      ∙ sym (ap (λ h. with_held part h tick bytes found) (held_now ∙ none_in room (q * part) i none) ∙ cond-false (nat_lt part (length bytes)) (held_long tick) (held_bytes tick bytes found) less))
    where
      no_longer : (a b : ℕ) → b ≤ a → nat_lt a b ≡ false
      no_longer a b h = grind (arith, nat_tests)

-- ---- what is kept of one sender

pub fits_here : (part size j : ℕ) (is : List Inbox) (i : Inbox) → AllFit part size is → j < length is → i ≡ get_or is j i → FitsIn part size (j * part) i
fits_here part size j is i all within at = subst (FitsIn part size (j * part)) (get_or_default is j Empty i within ∙ sym at) (all j)

-- ---- nothing

pub held_forgotten : (part : ℕ) (room : List ℕ) (k : ℕ) (is : List Inbox) → held_from part room k (map forgotten is) ≡ replicate (length is) held_none
held_forgotten part room k [] = refl
held_forgotten part room k (i ∷ is) = ap (λ hs. held_none ∷ hs) (held_forgotten part room (suc k) is)

pub fit_forgotten : (part size : ℕ) (is : List Inbox) → AllFit part size (map forgotten is)
fit_forgotten part size is q = subst (FitsIn part size (q * part)) (sym (none is q)) tt where
  none : (is : List Inbox) (q : ℕ) → get_or (map forgotten is) q Empty ≡ Empty
  none [] q = refl
  none (i ∷ is) zero = refl
  none (i ∷ is) (suc q) = none is q

pub held_fresh : (part : ℕ) (room : List ℕ) (k n : ℕ) → held_from part room k (replicate n Empty) ≡ replicate n held_none
held_fresh part room k zero = refl
held_fresh part room k (suc n) = ap (λ hs. held_none ∷ hs) (held_fresh part room (suc k) n)

pub fit_fresh : (part size n : ℕ) → AllFit part size (replicate n Empty)
fit_fresh part size n q = subst (FitsIn part size (q * part)) (sym (none n q)) tt where
  none : (n q : ℕ) → get_or (replicate n Empty) q Empty ≡ Empty
  none zero q = refl
  none (suc n) zero = refl
  none (suc n) (suc q) = none n q

-- ---- where no bytes are kept, the room is free

unkept_alike : (old new : List ℕ) (at : ℕ) (i : Inbox) → is_kept i ≡ false → held_in new at i ≡ held_in old at i
unkept_alike old new at Empty none = refl
unkept_alike old new at (One kept) none = absurd (cc)
unkept_alike old new at (TooLong t) none = refl
unkept_alike old new at Several none = refl

unkept_fits : (part size at : ℕ) (i : Inbox) → is_kept i ≡ false → FitsIn part size at i
unkept_fits part size at Empty none = tt
unkept_fits part size at (One kept) none = absurd (cc)
unkept_fits part size at (TooLong t) none = tt
unkept_fits part size at Several none = tt

pub room_free : (part : ℕ) (old new : List ℕ) (k : ℕ) (is : List Inbox) → KeepsNone is → held_from part new k is ≡ held_from part old k is
room_free part old new k [] none = refl
room_free part old new k (i ∷ is) none =
    ap (λ h. h ∷ held_from part new (suc k) is) (unkept_alike old new (k * part) i (none 0))
    ∙ ap (λ hs. held_in old (k * part) i ∷ hs) (room_free part old new (suc k) is (λ q. none (suc q)))

pub fit_free : (part size : ℕ) (is : List Inbox) → KeepsNone is → AllFit part size is
fit_free part size is none q = unkept_fits part size (q * part) (get_or is q Empty) (none q)

-- ---- the bytes that are kept

pub bytes_are : (room : List ℕ) (at : ℕ) (i : Inbox) → bytes_in (held_in room at i) ≡ take (kept_len i) (drop at room)
bytes_are room at Empty = refl
bytes_are room at (One kept) = refl
bytes_are room at (TooLong t) = refl
bytes_are room at Several = refl

pub bytes_fit : (part size at : ℕ) (i : Inbox) → FitsIn part size at i → (0 < kept_len i) → at + kept_len i ≤ size
bytes_fit part size at Empty fits some = absurd (omega (arith, some))
bytes_fit part size at (One kept) fits some = fits.1
bytes_fit part size at (TooLong t) fits some = absurd (omega (arith, some))
bytes_fit part size at Several fits some = absurd (omega (arith, some))

pub stands_in : (part : ℕ) (room : List ℕ) (at : ℕ) (i : Inbox) → FitsIn part (length room) at i → StandsAt room at (held_in room at i)
stands_in part room at Empty fits = tt
stands_in part room at (One kept) fits =
    let long : length (take kept.len (drop at room)) ≡ kept.len = length-take-le kept.len (drop at room) (omega (arith, length-drop at room, fits.1)) in
    record { within = omega (arith, long, fits.1); there = ap (λ n. take n (drop at room)) long }
stands_in part room at (TooLong t) fits = tt
stands_in part room at Several fits = tt
