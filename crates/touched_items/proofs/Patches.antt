-- How other bytes are put into a part of a frame, and which entries they hit.
use Rattle.std.proofs.Common.{ℕ, ◌≡◌, ◌≢◌, ◌<◌, ◌≤◌, ◌+◌, ◌-◌, ◌*◌, ◌/◌, max, min, Bool, true, ◌&&◌, List, length, get_or, set, refl, sym, ap, ◌∙◌, ◌⊎◌, inl, inr, arith}
use Rattle.std.specs.Prelude.{nat_le, nat_lt, if◌then◌else◌}
use Rattle.std.proofs.Math.Nat.{div-add-mod}
use Rattle.std.proofs.lemmas.Nat.{mul-le, mod_below}
use Rattle.std.proofs.lemmas.Bool.{cases_eq, cases_lt, cond-true, and_from, lt-leb, le-leb, le-ltb, lt-ltb}
use Rattle.std.proofs.lemmas.List.{get_or-set_same, get_or-set_other, ext_get_or}
use Rattle.touched_items.specs.Overlaid.{overlaid, IsClear}
use Rattle.touched_items.specs.OverlaidLaws.{length-overlaid}
use Rattle.touched_items.proofs.Overlays.{get_or-overlaid}

-- ---- written places

-- the byte that stands at place n of a frame where all up to a place were written
abbrev pub written : ℕ → List ℕ → ℕ → ℕ → ℕ → ℕ
written at bytes place own n = if nat_le at n && nat_lt n place then get_or bytes (n - at) 0 else own

-- nothing was written yet
pub unwritten : (at from start : ℕ) (bytes part : List ℕ) (k : ℕ) → start ≡ max at from → get_or part k 0 ≡ written at bytes start (get_or part k 0) (from + k)
unwritten at from start bytes part k is = elim (cases_lt (from + k) at) [
  | inl before ↦ rw (lt-leb at (from + k) before) refl
  | inr after ↦ rw (le-leb at (from + k) after, le-ltb (from + k) start (omega (arith, is))) refl
]

-- one byte more
pub write_on : (at from place v : ℕ) (bytes part was : List ℕ) → ((k : ℕ) → get_or part k 0 ≡ written at bytes place (get_or was k 0) (from + k))
    → at ≤ place → from ≤ place → place - from < length part → v ≡ get_or bytes (place - at) 0
    → (k : ℕ) → get_or (set part (place - from) v) k 0 ≡ written at bytes (place + 1) (get_or was k 0) (from + k)
write_on at from place v bytes part was before high above within is k = elim (cases_eq k (place - from)) [
  | inl here ↦
      let e : from + k ≡ place = omega (arith, here) in
      let both : (nat_le at (from + k) && nat_lt (from + k) (place + 1)) ≡ true = and_from _ _ (le-leb at (from + k) (omega arith)) (lt-ltb (from + k) (place + 1) (omega arith)) in
      ap (λ (n : ℕ). get_or (set part (place - from) v) n 0) here ∙ get_or-set_same part (place - from) v 0 within ∙ is
      ∙ ap (λ (n : ℕ). get_or bytes (n - at) 0) (sym e)
      ∙ sym (cond-true (nat_le at (from + k) && nat_lt (from + k) (place + 1)) (get_or bytes (from + k - at) 0) (get_or was k 0) both)
  | inr other ↦
      get_or-set_other part (place - from) k v 0 other ∙ before k
      ∙ ap (λ (b : Bool). if nat_le at (from + k) && b then get_or bytes (from + k - at) 0 else get_or was k 0) (further (from + k) place (λ e. other (omega (arith, e, above))))
]
  where
    further : (n place : ℕ) → (n ≡ place → ⊥) → nat_lt n place ≡ nat_lt n (place + 1)
    further n place ne = elim (cases_lt n place) [
      | inl low ↦ lt-ltb n place low ∙ sym (lt-ltb n (place + 1) (omega arith))
      | inr high ↦ le-ltb n place high ∙ sym (le-ltb n (place + 1) (let far : n ≢ place = ne in omega arith))
    ]

-- all that fall within the part are written
pub all_written : (at from start end place : ℕ) (bytes part was : List ℕ) → start ≡ max at from → end ≡ min (from + length was) (at + length bytes) → length part ≡ length was
    → ((k : ℕ) → get_or part k 0 ≡ written at bytes place (get_or was k 0) (from + k)) → (place ≤ end) ⊎ (place ≡ start) → end ≤ place → part ≡ overlaid at bytes from was
all_written at from start end place bytes part was begins ends long each low high =
    ext_get_or 0 part (overlaid at bytes from was) (long ∙ sym (length-overlaid at bytes from was)) (λ k h.
    let within : k < length was = omega (arith, h, long) in
    each k
    ∙ ap (λ (b : Bool). if b then get_or bytes (from + k - at) 0 else get_or was k 0) (same k within)
    ∙ sym (get_or-overlaid at bytes from was k within))
  where
    bound : (k : ℕ) → at ≤ from + k → at + length bytes ≤ from + k → (place ≤ end) ⊎ (place ≡ start) → place ≤ from + k
    bound k after past (inl p) = omega (arith, ends)
    bound k after past (inr p) = omega (arith, begins)

    same : (k : ℕ) → k < length was → (nat_le at (from + k) && nat_lt (from + k) place) ≡ (nat_le at (from + k) && nat_lt (from + k) (at + length bytes))
    same k within = elim (cases_lt (from + k) at) [
      | inl before ↦ rw (lt-leb at (from + k) before) refl
      | inr after ↦ elim (cases_lt (from + k) (at + length bytes)) [
        | inl inside ↦ rw (le-leb at (from + k) after, lt-ltb (from + k) (at + length bytes) inside, lt-ltb (from + k) place (omega (arith, ends, high))) refl
        | inr past ↦ rw (le-leb at (from + k) after, le-ltb (from + k) (at + length bytes) past, le-ltb (from + k) place (bound k after past low)) refl
      ]
    ]

-- ---- entries that aren't hit

-- an entry before the first that is hit
pub clear_before : (at count begin width k : ℕ) → begin ≡ max at 14 - 14 → 0 < width → k < begin / width → IsClear at count (14 + width * k) width
clear_before at count begin width k is wide low = λ i from until.
    let whole = div-add-mod begin width in
    let fits : width * (k + 1) ≤ width * (begin / width) = mul-le width (k + 1) width (begin / width) (omega arith) (omega arith) in
    let times : width * (k + 1) ≡ width * k + width = omega arith in
    inl (omega (arith, is, whole, fits, times, from, until))

-- one behind the last
pub clear_behind : (at count end width k : ℕ) → end ≡ at + count - 14 → 0 < end → 0 < width → (end - 1) / width + 1 ≤ k → IsClear at count (14 + width * k) width
clear_behind at count end width k is some wide high = λ i from until.
    let whole = div-add-mod (end - 1) width in
    let rest = mod_below (end - 1) width wide in
    let fits : width * ((end - 1) / width + 1) ≤ width * k = mul-le width ((end - 1) / width + 1) width k (omega arith) (omega arith) in
    let times : width * ((end - 1) / width + 1) ≡ width * ((end - 1) / width) + width = omega arith in
    inr (omega (arith, is, some, whole, rest, fits, times, from))

-- none is hit where no byte stands behind the header
pub clear_all : (at count begin end width k : ℕ) → begin ≡ max at 14 - 14 → end ≡ at + count - 14 → end ≤ begin → IsClear at count (14 + width * k) width
clear_all at count begin end width k b e low = λ i from until.
    elim (cases_lt i at) [ inl before ↦ inl before | inr after ↦ inr (omega (arith, b, e, low, from, after)) ]
