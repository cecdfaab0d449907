-- The numbers of sound nodes, a node at a time.
use Rattle.std.proofs.Common.{◌≡◌, ℕ, zero, suc, ◌+◌, ◌<◌, ◌≤◌, min, Bool, true, false, List, [], ◌∷◌, ◌++◌, length, take, get_or, refl, ap, ap₂, ◌∙◌, arith, append-nil, add-one, Some, ℤ, pos}
use Rattle.std.specs.Prelude.{if◌then◌else◌}
use Rattle.std.specs.Int.{int_min, int_max}
use Rattle.std.specs.List.{fold}
use Rattle.node_grid.specs.declared.class.Class.{Class}
use Rattle.node_grid.specs.declared.class.Class.TheVariants.{N}
use Rattle.node_grid.specs.Class.{is_sound}
use Rattle.run_text.specs.ClockText.{sound_numbers, range_of, widened}

fold_push : (f : ℤ → ℤ → ℤ) (a : ℤ) (xs : List ℤ) (x : ℤ) → fold f a (xs ++ x ∷ []) ≡ f (fold f a xs) x
fold_push f a [] x = refl
fold_push f a (y ∷ ys) x = fold_push f (f a y) ys x

-- the range of one more number
pub range_push : (xs : List ℤ) (x : ℤ) → range_of (xs ++ x ∷ []) ≡ Some (widened (range_of xs) x)
range_push [] x = refl
range_push (y ∷ ys) x = ap₂ (λ (least greatest : ℤ). Some (least, greatest)) (fold_push int_min y ys x) (fold_push int_max y ys x)

behind : (b : Bool) (x : ℤ) (r s t : List ℤ) → s ≡ r ++ t → (if b then x ∷ s else s) ≡ (if b then x ∷ r else r) ++ t
behind true x r s t e = ap (λ ys. x ∷ ys) e
behind false x r s t e = e

-- the numbers of one more node
pub sound_next : (cs : List Class) (xs : List ℤ) (i : ℕ) → i < length cs → i < length xs
    → sound_numbers (take (suc i) cs) (take (suc i) xs) ≡ sound_numbers (take i cs) (take i xs) ++ (if is_sound (get_or cs i N) then get_or xs i (pos 0) ∷ [] else [])
sound_next [] xs i h k = absurd (omega arith)
sound_next (c ∷ cs) [] i h k = absurd (omega arith)
sound_next (c ∷ cs) (x ∷ xs) zero h k = refl
sound_next (c ∷ cs) (x ∷ xs) (suc i) h k =
    behind (is_sound c) x (sound_numbers (take i cs) (take i xs)) (sound_numbers (take (suc i) cs) (take (suc i) xs)) (if is_sound (get_or cs i N) then get_or xs i (pos 0) ∷ [] else []) (sound_next cs xs i (omega arith) (omega arith))

module _ (cs : List Class) (xs : List ℤ) (i : ℕ) (within : i < length cs) (within_too : i < length xs) where
  abbrev before : List ℤ
  before = sound_numbers (take i cs) (take i xs)

  abbrev more : List ℤ
  more = sound_numbers (take (i + 1) cs) (take (i + 1) xs)

  more_is : (b : Bool) → is_sound (get_or cs i N) ≡ b → more ≡ before ++ (if b then get_or xs i (pos 0) ∷ [] else [])
  more_is b e =
      ap₂ (λ (ys : List Class) (zs : List ℤ). sound_numbers ys zs) (ap (λ (k : ℕ). take k cs) (add-one i)) (ap (λ (k : ℕ). take k xs) (add-one i))
      ∙ sound_next cs xs i within within_too ∙ ap (λ (t : Bool). before ++ (if t then get_or xs i (pos 0) ∷ [] else [])) e

  pub counted : is_sound (get_or cs i N) ≡ true → range_of more ≡ Some (widened (range_of before) (get_or xs i (pos 0)))
  counted e = ap range_of (more_is true e) ∙ range_push before (get_or xs i (pos 0))

  pub passed : is_sound (get_or cs i N) ≡ false → range_of more ≡ range_of before
  passed e = ap range_of (more_is false e ∙ append-nil before)

-- the numbers of all nodes that have one
pub all_counted : (cs : List Class) (xs : List ℤ) (i : ℕ) → min (length xs) (length cs) ≤ i → sound_numbers (take i cs) (take i xs) ≡ sound_numbers cs xs
all_counted [] xs zero h = refl
all_counted [] xs (suc i) h = refl
all_counted (c ∷ cs) [] zero h = refl
all_counted (c ∷ cs) [] (suc i) h = refl
all_counted (c ∷ cs) (x ∷ xs) zero h = absurd (omega (arith, h))
all_counted (c ∷ cs) (x ∷ xs) (suc i) h =
    ap (λ (ys : List ℤ). if is_sound c then x ∷ ys else ys) (all_counted cs xs i (omega (arith, h)))
