-- The view of a list of lines, at the place of one of them.
use Rattle.std.proofs.Common.{◌≡◌, ℕ, zero, suc, replicate, refl, ◌+◌, ◌<◌, List, [], ◌∷◌, ◌++◌, map, length, take, drop, get_or, sym, ap, ◌∙◌, arith}
use Rattle.std.proofs.lemmas.List.{take_more, drop_more, get_or-map, length-map}
use Rattle.fault_classes.specs.declared.line.FaultLine.{FaultLine}
use Rattle.fault_classes.specs.Line.{line_of}

pub line_at : {n : ℕ} (xs : List (FaultLine n)) (k : ℕ) (x : FaultLine n) → k < length xs → x ≡ get_or xs k x → get_or (map line_of xs) k (line_of x) ≡ line_of x
line_at xs k x h e = get_or-map line_of xs k x (line_of x) h ∙ ap line_of (sym e)

pub rest_at : {n : ℕ} (xs : List (FaultLine n)) (k : ℕ) (x : FaultLine n) → k < length xs → x ≡ get_or xs k x → drop k (map line_of xs) ≡ line_of x ∷ drop (k + 1) (map line_of xs)
rest_at xs k x h e = drop_more (map line_of xs) k (line_of x) (omega (arith, length-map xs line_of)) ∙ ap (λ l. l ∷ drop (k + 1) (map line_of xs)) (line_at xs k x h e)

pub front_at : {n : ℕ} (xs : List (FaultLine n)) (k : ℕ) (x : FaultLine n) → k < length xs → x ≡ get_or xs k x → take (k + 1) (map line_of xs) ≡ take k (map line_of xs) ++ line_of x ∷ []
front_at xs k x h e = take_more (map line_of xs) k (line_of x) (omega (arith, length-map xs line_of)) ∙ ap (λ l. take k (map line_of xs) ++ l ∷ []) (line_at xs k x h e)

-- a list of empty sets
pub none_there : (k p : ℕ) → get_or {A = List ℕ} (replicate k []) p [] ≡ []
none_there zero p = refl
none_there (suc k) zero = refl
none_there (suc k) (suc p) = none_there k p

pub long_as : {X : Type 0} (k : ℕ) (x : X) → length (replicate k x) ≡ k
long_as zero x = refl
long_as (suc k) x = ap suc (long_as k x)
