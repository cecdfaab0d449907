-- Values as they are written, one after another.
use Rattle.std.proofs.Common.{length-append, append-nil, ◌*◌, ◌+◌, ◌≤◌, ℕ, ◌≡◌, ◌<◌, List, [], ◌∷◌, ◌++◌, length, take, get_or, refl, sym, ap, ◌∙◌, arith, ℤ, pos}
use Rattle.std.specs.List.{flat_map}
use Rattle.std.proofs.lemmas.Grind.{flat_map-append}
use Rattle.std.proofs.lemmas.List.{length-take-le, take_more}
use Rattle.frames.specs.Spelling.{value_spelling}
use Rattle.frames.specs.Writing.{pasted}
use Rattle.frames.specs.PieceLaws.{pasted_twice}

length_of_values : (xs : List ℤ) → length (flat_map value_spelling xs) ≡ 8 * length xs
length_of_values [] = omega arith
length_of_values (x ∷ xs) = let a = length-append (value_spelling x) (flat_map value_spelling xs) in let b = length_of_values xs in let c : length (value_spelling x) ≡ 8 = refl in grind arith

-- one value more was written
pub value_more : (xs : List ℤ) (k : ℕ) (v : ℤ) (was now after : List ℕ) → k < length xs → v ≡ get_or xs k (pos 0) → 8 * k + 8 ≤ length was
    → now ≡ pasted 0 (flat_map value_spelling (take k xs)) was → after ≡ pasted (8 * k) (value_spelling v) now → after ≡ pasted 0 (flat_map value_spelling (take (k + 1) xs)) was
value_more xs k v was now after low is room before then' =
    let len : length (flat_map value_spelling (take k xs)) ≡ 8 * k = length_of_values (take k xs) ∙ ap (λ n. 8 * n) (length-take-le k xs (omega arith)) in
    let more : flat_map value_spelling (take (k + 1) xs) ≡ flat_map value_spelling (take k xs) ++ value_spelling v =
    ap (flat_map value_spelling) (take_more xs k (pos 0) low) ∙ flat_map-append value_spelling (take k xs) (get_or xs k (pos 0) ∷ [])
    ∙ ap (λ (s : List ℕ). flat_map value_spelling (take k xs) ++ s) (append-nil (value_spelling (get_or xs k (pos 0))) ∙ ap value_spelling (sym is)) in
    then' ∙ ap (pasted (8 * k) (value_spelling v)) before
    ∙ pasted_twice 0 (8 * k) (flat_map value_spelling (take k xs)) (value_spelling v) was (omega arith) (omega arith)
    ∙ ap (λ (s : List ℕ). pasted 0 s was) (sym more)
