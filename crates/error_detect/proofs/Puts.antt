-- What stands in a room after bytes are put into it.
use Rattle.std.proofs.Common.{◌≡◌, ℕ, ◌+◌, ◌-◌, ◌≤◌, List, ◌++◌, length, take, drop, drop-drop, append_assoc, refl, sym, ap, ◌∙◌, arith}
use Rattle.std.proofs.lemmas.List.{take_at, drop_at, drop-take, take-take, take-append-le, length-take-le, length-append}
use Rattle.frames.specs.Writing.{pasted}
use Rattle.frames.specs.PieceLaws.{length-pasted}
use Rattle.error_detect.specs.Putting.{IsPut}

module _ (at : ℕ) (bytes old mid new : List ℕ) (fits : at + length bytes ≤ length mid) (more : length old ≤ length mid) (front : take (length old) mid ≡ old) (is : new ≡ pasted at bytes mid) where
  abbrev behind_it : List ℕ
  behind_it = drop (at + length bytes) mid

  long : length new ≡ length mid
  long = ap length is ∙ length-pasted at bytes mid fits

  front_long : length (take at mid) ≡ at
  front_long = length-take-le at mid (omega (arith, fits))

  parted : new ≡ take at mid ++ (bytes ++ behind_it)
  parted = is ∙ append_assoc (take at mid) bytes behind_it

  -- of the longer room what stood in the old one
  same_mid : (from n : ℕ) → from + n ≤ length old → take n (drop from mid) ≡ take n (drop from old)
  same_mid from n low =
      sym (drop-take from n mid)
      ∙ ap (drop from) (sym (take-take (from + n) (length old) mid low) ∙ ap (take (from + n)) front)
      ∙ drop-take from n old

  there : take (length bytes) (drop at new) ≡ bytes
  there =
      ap (λ (xs : List ℕ). take (length bytes) (drop at xs)) parted
      ∙ ap (take (length bytes)) (drop_at (take at mid) (bytes ++ behind_it) at front_long)
      ∙ take_at bytes behind_it (length bytes) refl

  before : (from n : ℕ) → from + n ≤ length old → from + n ≤ at → take n (drop from new) ≡ take n (drop from old)
  before from n low h =
      sym (drop-take from n new)
      ∙ ap (drop from) (ap (take (from + n)) parted ∙ take-append-le (from + n) (take at mid) (bytes ++ behind_it) (omega (arith, front_long, h)) ∙ take-take (from + n) at mid h)
      ∙ drop-take from n mid
      ∙ same_mid from n low

  behind : (from n : ℕ) → from + n ≤ length old → at + length bytes ≤ from → take n (drop from new) ≡ take n (drop from old)
  behind from n low h =
      let a : ℕ = at + length bytes in
      let k : ℕ = from - a in
      let e : a + k ≡ from = omega (arith, h) in
      let l : length (take at mid ++ bytes) ≡ a = length-append (take at mid) bytes ∙ ap (λ m. m + length bytes) front_long in
      ap (λ m. take n (drop m new)) (sym e)
      ∙ ap (take n) (sym (drop-drop k a new) ∙ ap (λ (xs : List ℕ). drop k (drop a xs)) is ∙ ap (drop k) (drop_at (take at mid ++ bytes) behind_it a l) ∙ drop-drop k a mid)
      ∙ ap (λ m. take n (drop m mid)) e
      ∙ same_mid from n low

  pub put_so : IsPut at bytes old new
  put_so = record { has = record { within = omega (arith, long, fits); there = there }; longer = omega (arith, long, more); before = before; behind = behind }
