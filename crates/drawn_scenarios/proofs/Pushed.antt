-- What is pushed for a bout, one part behind the other.
use Rattle.std.proofs.Common.{◌≡◌, ℕ, ◌+◌, ◌<◌, List, [], ◌∷◌, ◌++◌, map, length, take, get_or, sym, ap, ◌∙◌, append_assoc}
use Rattle.std.specs.List.{flat_map}
use Rattle.std.proofs.lemmas.List.{take_more, map_push}
use Rattle.scenario.specs.Parts.{FaultParts, LieParts}
use Rattle.drawn_scenarios.specs.declared.choices.Choices.{Choices}
use Rattle.drawn_scenarios.specs.declared.bout.Conduct.{Conduct}
use Rattle.drawn_scenarios.specs.declared.bout.Bout.{Bout}
use Rattle.drawn_scenarios.specs.Lines.{lines_by, lines_of, lies_by, lies_of}
use Rattle.drawn_scenarios.proofs.Gathered.{flat_push}

-- one item more of a list
pub bout_more : {X Y : Type 0} (f : X → List Y) (xs : List X) (i : ℕ) (d : X) (now after : List Y) → i < length xs → now ≡ flat_map f (take i xs) → after ≡ now ++ f (get_or xs i d) → after ≡ flat_map f (take (i + 1) xs)
bout_more f xs i d now after low e more =
    more ∙ ap (λ zs. zs ++ f (get_or xs i d)) e ∙ sym (ap (flat_map f) (take_more xs i d low) ∙ flat_push f (take i xs) (get_or xs i d))

-- a pushed part, as it is seen
pub part_more : {X Y : Type 0} (f : X → Y) (xs ys : List X) (x : X) (y : Y) → ys ≡ xs ++ x ∷ [] → f x ≡ y → map f ys ≡ map f xs ++ y ∷ []
part_more f xs ys x y e seen = ap (map f) e ∙ map_push f xs x ∙ ap (λ z. map f xs ++ z ∷ []) seen

-- a part and another behind it
pub two_more : {Y : Type 0} (before now after : List Y) (x y : Y) → now ≡ before ++ x ∷ [] → after ≡ now ++ y ∷ [] → after ≡ before ++ x ∷ y ∷ []
two_more before now after x y e f = f ∙ ap (λ zs. zs ++ y ∷ []) e ∙ append_assoc before (x ∷ []) (y ∷ [])

-- the lines, and the lies, of a bout's conduct
pub lines_more : (c : Choices) (b : Bout) (k : Conduct) (xs before after : List FaultParts) → b.conduct ≡ k → lines_by c b k ≡ xs → after ≡ before ++ xs → after ≡ before ++ lines_of c b
lines_more c b k xs before after e told more = more ∙ ap (λ zs. before ++ zs) (sym (ap (lines_by c b) e ∙ told))

pub lies_more : (c : Choices) (b : Bout) (k : Conduct) (xs before after : List LieParts) → b.conduct ≡ k → lies_by c b k ≡ xs → after ≡ before ++ xs → after ≡ before ++ lies_of c b
lies_more c b k xs before after e told more = more ∙ ap (λ zs. before ++ zs) (sym (ap (lies_by c b) e ∙ told))
