-- Lists whose elements are tried in turn, up to the first that fails.
use Rattle.std.proofs.Common.{◌≡◌, ℕ, ◌+◌, suc, ◌<◌, ◌≤◌, Bool, true, false, ◌&&◌, nat_le, ℤ, List, ◌∷◌, map, length, drop, get_or, sym, ap, ◌∙◌, add-one}
use Rattle.std.proofs.Math.Seq.{drop-cons}
use Rattle.std.specs.List.{list_all}
use Rattle.std.proofs.lemmas.List.{length-map, at_drop_all}
use Rattle.scenario.specs.Rules.{are_rows}

-- what is left begins with the element at i
pub drop-here : {X : Type 0} (xs : List X) (i : ℕ) (x : X) → i < length xs → x ≡ get_or xs i x → drop i xs ≡ x ∷ drop (i + 1) xs
drop-here xs i x h e = rw (add-one, drop-cons xs i x) (ap (λ w. w ∷ drop (suc i) xs) (sym e))

module _ {X Y : Type 0} (p : Y → Bool) (v : X → Y) (xs : List X) (k : ℕ) where
  -- an element is tried, and then those behind it
  turn : (x : X) (b : Bool) → k < length xs → x ≡ get_or xs k x → p (v x) ≡ b → list_all p (map v (drop k xs)) ≡ (b && list_all p (map v (drop (k + 1) xs)))
  turn x b low is e = ap (λ ys. list_all p (map v ys)) (drop-here xs k x low is) ∙ ap (λ t. t && list_all p (map v (drop (k + 1) xs))) e

  -- what the loop answers is what all answer
  pub goes_on : (x : X) (whole : Bool) → k < length xs → x ≡ get_or xs k x → p (v x) ≡ true → list_all p (map v (drop k xs)) ≡ whole → list_all p (map v (drop (k + 1) xs)) ≡ whole
  goes_on x whole low is e h = sym (turn x true low is e) ∙ h

  pub ends_here : (x : X) (whole : Bool) → k < length xs → x ≡ get_or xs k x → p (v x) ≡ false → list_all p (map v (drop k xs)) ≡ whole → false ≡ whole
  ends_here x whole low is e h = sym (turn x false low is e) ∙ h

  pub all_passed : (whole : Bool) → length xs ≤ k → list_all p (map v (drop k xs)) ≡ whole → true ≡ whole
  all_passed whole past h = sym (at_drop_all (λ ys. list_all p (map v ys)) xs k past) ∙ h

-- elements that are tried as they are
module _ {X : Type 0} (p : X → Bool) (xs : List X) (k : ℕ) (d x : X) (whole : Bool) (low : k < length xs) (is : x ≡ get_or xs k d) where
  here : drop k xs ≡ x ∷ drop (k + 1) xs
  here = rw (add-one, drop-cons xs k d) (ap (λ w. w ∷ drop (suc k) xs) (sym is))

  all_at : (b : Bool) → p x ≡ b → list_all p (drop k xs) ≡ whole → (b && list_all p (drop (k + 1) xs)) ≡ whole
  all_at b e h = sym (ap (list_all p) here ∙ ap (λ t. t && list_all p (drop (k + 1) xs)) e) ∙ h

  pub all_go_on : p x ≡ true → list_all p (drop k xs) ≡ whole → list_all p (drop (k + 1) xs) ≡ whole
  all_go_on = all_at true

  pub all_end_here : p x ≡ false → list_all p (drop k xs) ≡ whole → false ≡ whole
  all_end_here = all_at false

-- rows, after their number
module _ {X : Type 0} (is : List ℤ → Bool) (v : X → List ℤ) (rows : List X) (few : Bool) (count : few ≡ (nat_le 1 (length rows) && nat_le (length rows) 1024)) where
  counted : few && list_all is (map v rows) ≡ are_rows is (map v rows)
  counted = ap (λ b. b && list_all is (map v rows)) count ∙ ap (λ n. (nat_le 1 n && nat_le n 1024) && list_all is (map v rows)) (sym (length-map rows v))

  pub rows_by_all : (b : Bool) → few ≡ true → b ≡ list_all is (map v rows) → b ≡ are_rows is (map v rows)
  rows_by_all b some h = h ∙ sym (ap (λ t. t && list_all is (map v rows)) some) ∙ counted

  pub no_rows : few ≡ false → false ≡ are_rows is (map v rows)
  no_rows none = sym (ap (λ t. t && list_all is (map v rows)) none) ∙ counted
