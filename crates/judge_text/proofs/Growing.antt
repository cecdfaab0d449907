-- Rows of one item more.
use Rattle.std.proofs.Common.{◌≡◌, ℕ, suc, ◌+◌, ◌<◌, List, [], ◌∷◌, ◌++◌, length, length-take, take, get_or, Option, sym, ap, subst, ◌∙◌, arith, append_assoc, append-nil}
use Rattle.std.specs.List.{flat_map}
use Rattle.std.proofs.lemmas.List.{take_more}
use Rattle.std.proofs.lemmas.Grind.{flat_map-append}
use Rattle.run_print.specs.Printing.{Prints}
use Rattle.run_print.specs.declared.printer.Printer.{Printer}
use Rattle.run_print.proofs.Joining.{then}
use Rattle.judge_text.specs.Rows.{skew_row, skew_rows}

-- the texts of one item more
flat_next : {X : Type 0} (f : X → List ℕ) (xs : List X) (k : ℕ) (d : X) → k < length xs → flat_map f (take (k + 1) xs) ≡ flat_map f (take k xs) ++ f (get_or xs k d)
flat_next f xs k d low =
    ap (flat_map f) (take_more xs k d low) ∙ flat_map-append f (take k xs) (get_or xs k d ∷ []) ∙ ap (λ text. flat_map f (take k xs) ++ text) (append-nil (f (get_or xs k d)))

-- the row of one period more
skews-push : (line p q : ℕ) (xs : List ℕ) (x : ℕ) → p + length xs ≡ q → skew_rows line p (xs ++ x ∷ []) ≡ skew_rows line p xs ++ skew_row line q x
skews-push line p q [] x at = let same : p ≡ q = omega arith in append-nil (skew_row line p x) ∙ ap (λ n. skew_row line n x) same
skews-push line p q (y ∷ ys) x at =
    ap (λ text. skew_row line p y ++ text) (skews-push line (suc p) q ys x (omega arith)) ∙ sym (append_assoc (skew_row line p y) (skew_rows line (suc p) ys) (skew_row line q x))

pub skews_next : (line : ℕ) (xs : List ℕ) (k d : ℕ) → k < length xs → skew_rows line 0 (take (k + 1) xs) ≡ skew_rows line 0 (take k xs) ++ skew_row line k (get_or xs k d)
skews_next line xs k d low =
    ap (skew_rows line 0) (take_more xs k d low) ∙ skews-push line 0 k (take k xs) (get_or xs k d) (omega (arith, length-take k xs))

module _ {S : Type 0} {room : ℕ} {written : S → Option (List ℕ)} {faults : S → ℕ} where
  -- one item more is printed
  pub further : {X : Type 0} {a b c : Printer room} {r s t : S} (f : X → List ℕ) (xs : List X) (k : ℕ) (d : X) → k < length xs
      → Prints written faults a r b s (flat_map f (take k xs)) → Prints written faults b s c t (f (get_or xs k d)) → Prints written faults a r c t (flat_map f (take (k + 1) xs))
  further {X} {a} {b} {c} {r} {s} {t} f xs k d low before last =
      subst (λ text. Prints written faults a r c t text) (sym (flat_next f xs k d low)) (then before last)
