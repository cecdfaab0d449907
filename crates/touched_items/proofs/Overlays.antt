-- Bytes that take the places of others in a frame, entry by entry.
use Rattle.std.proofs.Common.{ℕ, zero, suc, ◌≡◌, ◌<◌, ◌≤◌, ◌+◌, ◌-◌, ◌*◌, Bool, true, false, ◌&&◌, List, [], ◌∷◌, ◌++◌, length, take, drop, map, get_or, refl, sym, ap, ap₂, ◌∙◌, ◌⊎◌, inl, inr, arith, Vec, Global}
use Rattle.std.specs.Prelude.{nat_le, nat_lt, All, if◌then◌else◌}
use Rattle.std.specs.List.{list_all, flat_map}
use Rattle.std.proofs.lemmas.Bool.{cond-false, and_parts, and_from, lt-leb, le-leb, le-ltb}
use Rattle.std.proofs.lemmas.List.{ext_get_or, length-append, take_at, drop_at, get_or-map}
use Rattle.std.proofs.lemmas.List.Elements.{All-nil, All-cons, All-head, All-tail}
use Rattle.std.proofs.lemmas.List.Folds.{list_all_at}
use Rattle.std.proofs.lemmas.List.FromFn.{length-map-range_with_len, get_or-map-range_with_len}
use Rattle.frames.specs.PieceLaws.{IsFormat}
use Rattle.fault_classes.specs.declared.effect.Effect.{Effect}
use Rattle.fault_classes.specs.declared.effect.Effect.TheVariants as code
use Rattle.fault_classes.specs.Change.{change_of}
use Rattle.fault_link.specs.Arrival.{patched}
use Rattle.touched_frames.specs.Arrived.{replaced}
use Rattle.touched_items.specs.Overlaid.{overlaid, IsClear}
use Rattle.touched_items.specs.OverlaidLaws.{length-overlaid}
use Rattle.touched_items.specs.Patched.{cells_over}

-- ---- one stretch

-- the byte at a place
abbrev placed : ℕ → List ℕ → ℕ → ℕ → ℕ
placed at bytes own n = if nat_le at n && nat_lt n (at + length bytes) then get_or bytes (n - at) 0 else own

pub get_or-overlaid : (at : ℕ) (bytes : List ℕ) (from : ℕ) (xs : List ℕ) (k : ℕ) → k < length xs
    → get_or (overlaid at bytes from xs) k 0 ≡ (if nat_le at (from + k) && nat_lt (from + k) (at + length bytes) then get_or bytes (from + k - at) 0 else get_or xs k 0)
get_or-overlaid at bytes from [] k h = absurd (omega arith)
get_or-overlaid at bytes from (x ∷ xs) zero h = let e : from ≡ from + 0 = omega arith in ap (placed at bytes x) e
get_or-overlaid at bytes from (x ∷ xs) (suc k) h =
    let e : suc from + k ≡ from + suc k = omega arith in
    get_or-overlaid at bytes (suc from) xs k (omega arith) ∙ ap (placed at bytes (get_or xs k 0)) e

pub patched_overlaid : (at : ℕ) (bytes frame : List ℕ) → patched at bytes frame ≡ overlaid at bytes 0 frame
patched_overlaid at bytes frame =
    let place = λ (n : ℕ). if nat_le at n && nat_lt n (at + length bytes) then get_or bytes (n - at) 0 else get_or frame n 0 in
    let long = length-map-range_with_len place 0 (length frame) in
    ext_get_or 0 (patched at bytes frame) (overlaid at bytes 0 frame) (long ∙ sym (length-overlaid at bytes 0 frame)) (λ k h.
    let within : k < length frame = omega (arith, h, long) in
    let e : 0 + k ≡ k = omega arith in
    get_or-map-range_with_len place 0 (length frame) k k 0 within e
    ∙ sym (get_or-overlaid at bytes 0 frame k within ∙ ap (placed at bytes (get_or frame k 0)) e))

pub overlaid-append : (at : ℕ) (bytes : List ℕ) (from : ℕ) (xs ys : List ℕ) → overlaid at bytes from (xs ++ ys) ≡ overlaid at bytes from xs ++ overlaid at bytes (from + length xs) ys
overlaid-append at bytes from [] ys = let e : from ≡ from + 0 = omega arith in ap (λ (n : ℕ). overlaid at bytes n ys) e
overlaid-append at bytes from (x ∷ xs) ys =
    let e : suc from + length xs ≡ from + suc (length xs) = omega arith in
    ap (λ (zs : List ℕ). placed at bytes x from ∷ zs)
    (overlaid-append at bytes (suc from) xs ys ∙ ap (λ (n : ℕ). overlaid at bytes (suc from) xs ++ overlaid at bytes n ys) e)

-- a place that isn't hit
pub missed : (at n i : ℕ) → (i < at) ⊎ (at + n ≤ i) → (nat_le at i && nat_lt i (at + n)) ≡ false
missed at n i (inl before) = rw (lt-leb at i before) refl
missed at n i (inr after) = rw (le-leb at i (omega arith), le-ltb i (at + n) after) refl

pub overlaid-clear : (at : ℕ) (bytes : List ℕ) (from : ℕ) (xs : List ℕ) → IsClear at (length bytes) from (length xs) → overlaid at bytes from xs ≡ xs
overlaid-clear at bytes from [] clear = refl
overlaid-clear at bytes from (x ∷ xs) clear =
    ap₂ ◌∷◌ (cond-false (nat_le at from && nat_lt from (at + length bytes)) (get_or bytes (from - at) 0) x (missed at (length bytes) from (clear from (omega arith) (omega arith))))
    (overlaid-clear at bytes (suc from) xs (λ i low high. clear i (omega arith) (omega arith)))

pub patched_none : (frame : List ℕ) → patched 0 [] frame ≡ frame
patched_none frame = patched_overlaid 0 [] frame ∙ overlaid-clear 0 [] 0 frame (λ i low high. inr (omega arith))

-- where an effect replaces no bytes
pub not_set : (f : Effect) → ((at : ℕ) (x : Vec ℕ Global) → f ≡ code.Set at x → ⊥) → (frame : List ℕ) → patched 0 [] frame ≡ replaced (change_of f) frame
not_set code.Drop other frame = patched_none frame
not_set (code.Cut k) other frame = patched_none frame
not_set code.Twice other frame = patched_none frame
not_set (code.Time t) other frame = patched_none frame
not_set (code.Set at bytes) other frame = absurd (other at bytes refl)
not_set (code.Raw bytes) other frame = patched_none frame

-- ---- entries, one after another

abbrev pub joined : List (List ℕ) → List ℕ
joined cells = flat_map (λ cell. cell) cells

module _ {E : Type 0} (spell : E → List ℕ) (read : List ℕ → E) (P : E → Type 0) (width : ℕ) (f : IsFormat width spell read P) (at : ℕ) (bytes : List ℕ) where
  pub length-cells : (from : ℕ) (es : List E) → length (cells_over spell width at bytes from es) ≡ length es
  length-cells from [] = refl
  length-cells from (x ∷ xs) = ap suc (length-cells (from + width) xs)

  pub body_over : (from : ℕ) (es : List E) → All P es → overlaid at bytes from (flat_map spell es) ≡ joined (cells_over spell width at bytes from es)
  body_over from [] all = refl
  body_over from (x ∷ xs) all =
      overlaid-append at bytes from (spell x) (flat_map spell xs)
      ∙ ap (λ (n : ℕ). overlaid at bytes from (spell x) ++ overlaid at bytes (from + n) (flat_map spell xs)) (f.long x (All-head P x xs all))
      ∙ ap (λ (ys : List ℕ). overlaid at bytes from (spell x) ++ ys) (body_over (from + width) xs (All-tail P x xs all))

  long_cell : (from : ℕ) (x : E) → P x → length (overlaid at bytes from (spell x)) ≡ width
  long_cell from x p = length-overlaid at bytes from (spell x) ∙ f.long x p

  pub length-joined : (from : ℕ) (es : List E) → All P es → length (joined (cells_over spell width at bytes from es)) ≡ width * length es
  length-joined from [] all = omega arith
  length-joined from (x ∷ xs) all =
      let cell : List ℕ = overlaid at bytes from (spell x) in
      let rest : List ℕ = joined (cells_over spell width at bytes (from + width) xs) in
      let here : length cell ≡ width = long_cell from x (All-head P x xs all) in
      let more : length rest ≡ width * length xs = length-joined (from + width) xs (All-tail P x xs all) in
      let times : width * suc (length xs) ≡ width + width * length xs = omega arith in
      omega (arith, length-append cell rest)

  -- entries that spell the same bytes as others in range are their spellings
  pub same_cells : (from : ℕ) (es xs : List E) → All P es → All P xs → joined (cells_over spell width at bytes from es) ≡ flat_map spell xs → cells_over spell width at bytes from es ≡ map spell xs
  same_cells from [] [] a b e = refl
  same_cells from [] (x ∷ xs) a b e =
      let l : length (spell x) ≡ width = f.long x (All-head P x xs b) in
      let n : 0 ≡ length (spell x ++ flat_map spell xs) = ap length e in
      absurd (omega (arith, f.wide, length-append (spell x) (flat_map spell xs)))
  same_cells from (y ∷ ys) [] a b e =
      let cell : List ℕ = overlaid at bytes from (spell y) in
      let rest : List ℕ = joined (cells_over spell width at bytes (from + width) ys) in
      let l : length cell ≡ width = long_cell from y (All-head P y ys a) in
      let n : length (cell ++ rest) ≡ 0 = ap length e in
      absurd (omega (arith, f.wide, length-append cell rest))
  same_cells from (y ∷ ys) (x ∷ xs) a b e =
      let cell : List ℕ = overlaid at bytes from (spell y) in
      let rest : List ℕ = joined (cells_over spell width at bytes (from + width) ys) in
      let ly : length cell ≡ width = long_cell from y (All-head P y ys a) in
      let lx : length (spell x) ≡ width = f.long x (All-head P x xs b) in
      let here : cell ≡ spell x = sym (take_at cell rest width ly) ∙ ap (take width) e ∙ take_at (spell x) (flat_map spell xs) width lx in
      let later : rest ≡ flat_map spell xs = sym (drop_at cell rest width ly) ∙ ap (drop width) e ∙ drop_at (spell x) (flat_map spell xs) width lx in
      ap₂ ◌∷◌ here (same_cells (from + width) ys xs (All-tail P y ys a) (All-tail P x xs b) later)

  pub cell_get : (from : ℕ) (es : List E) (k : ℕ) (d : E) → k < length es → get_or (cells_over spell width at bytes from es) k [] ≡ overlaid at bytes (from + width * k) (spell (get_or es k d))
  cell_get from [] k d h = absurd (omega arith)
  cell_get from (x ∷ xs) zero d h = let e : from ≡ from + width * 0 = omega arith in ap (λ (n : ℕ). overlaid at bytes n (spell x)) e
  cell_get from (x ∷ xs) (suc k) d h =
      let e : from + width + width * k ≡ from + width * suc k = omega arith in
      cell_get (from + width) xs k d (omega arith) ∙ ap (λ (n : ℕ). overlaid at bytes n (spell (get_or xs k d))) e

  -- an entry is read by itself
  pub cell_at : (from : ℕ) (es : List E) (k : ℕ) (d : E) → k < length es → get_or (map read (cells_over spell width at bytes from es)) k d ≡ read (overlaid at bytes (from + width * k) (spell (get_or es k d)))
  cell_at from es k d h =
      get_or-map read (cells_over spell width at bytes from es) k [] d (omega (arith, h, length-cells from es)) ∙ ap read (cell_get from es k d h)

  module _ (test : List ℕ → Bool) where
    pub all_pass : (from : ℕ) (es : List E) (d : E) → ((k : ℕ) → k < length es → test (overlaid at bytes (from + width * k) (spell (get_or es k d))) ≡ true)
        → list_all test (cells_over spell width at bytes from es) ≡ true
    all_pass from [] d h = refl
    all_pass from (x ∷ xs) d h =
        let e : from ≡ from + width * 0 = omega arith in
        let here : test (overlaid at bytes from (spell x)) ≡ true = ap (λ (n : ℕ). test (overlaid at bytes n (spell x))) e ∙ h 0 (omega arith) in
        let rest : list_all test (cells_over spell width at bytes (from + width) xs) ≡ true =
        all_pass (from + width) xs d (λ k l.
        let later : from + width + width * k ≡ from + width * suc k = omega arith in
        ap (λ (n : ℕ). test (overlaid at bytes n (spell (get_or xs k d)))) later ∙ h (suc k) (omega arith)) in
        and_from _ _ here rest

    pub one_fails : (from : ℕ) (es : List E) (k : ℕ) (d : E) → k < length es → test (overlaid at bytes (from + width * k) (spell (get_or es k d))) ≡ false
        → list_all test (cells_over spell width at bytes from es) ≡ false
    one_fails from es k d h fails =
        list_all_at test (cells_over spell width at bytes from es) k [] (omega (arith, h, length-cells from es)) (ap test (cell_get from es k d h) ∙ fails)

    -- what is spelt passes
    pub each_passes : ((x : E) → P x → test (spell x) ≡ true) → (xs : List E) → All P xs → list_all test (map spell xs) ≡ true
    each_passes passes [] all = refl
    each_passes passes (x ∷ xs) all = and_from _ _ (passes x (All-head P x xs all)) (each_passes passes xs (All-tail P x xs all))

    -- entries that pass are the spellings of what they say
    pub restored_cells : ((from : ℕ) (x : E) → P x → test (overlaid at bytes from (spell x)) ≡ true → P (read (overlaid at bytes from (spell x))) × (spell (read (overlaid at bytes from (spell x))) ≡ overlaid at bytes from (spell x)))
        → (from : ℕ) (es : List E) → All P es → list_all test (cells_over spell width at bytes from es) ≡ true
        → (flat_map spell (map read (cells_over spell width at bytes from es)) ≡ joined (cells_over spell width at bytes from es)) × All P (map read (cells_over spell width at bytes from es))
    restored_cells told from [] all h = (refl, All-nil P)
    restored_cells told from (x ∷ xs) all h =
        let cell : List ℕ = overlaid at bytes from (spell x) in
        let rest : List (List ℕ) = cells_over spell width at bytes (from + width) xs in
        let both = and_parts (test cell) (list_all test rest) h in
        let here = told from x (All-head P x xs all) both.0 in
        let later = restored_cells told (from + width) xs (All-tail P x xs all) both.1 in
        (ap₂ (λ (ys zs : List ℕ). ys ++ zs) here.1 later.0, All-cons P (read cell) (map read rest) here.0 later.1)
