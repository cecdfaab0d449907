-- What stands in a list of which a part is written over.
use Rattle.std.proofs.Common.{ℕ, suc, ◌≡◌, ◌<◌, ◌≤◌, ◌+◌, ◌-◌, List, [], ◌∷◌, ◌++◌, length, map, take, drop, set, get_or, sym, ap, ap₂, ◌∙◌, arith}
use Rattle.std.proofs.lemmas.List.{take_at, drop_at, drop-drop, drop_more, length-append, length-take, length-drop, length-map, append_assoc, append-nil, take-append-drop, set_at, set_split, get_or_append_left, get_or-append_right, get_or-take, get_or-drop, map-append, take-map, drop-map}
use Rattle.relay_walk.specs.Laid.{laid}

pub length-laid : {X : Type 0} (at : ℕ) (xs old : List X) → at + length xs ≤ length old → length (laid at xs old) ≡ length old
length-laid {X} at xs old h =
    omega (arith, length-append (take at old ++ xs) (drop (at + length xs) old), length-append (take at old) xs, length-take at old, length-drop (at + length xs) old)

front : {X : Type 0} (at : ℕ) (xs old : List X) → at + length xs ≤ length old → length (take at old ++ xs) ≡ at + length xs
front at xs old h = omega (arith, length-append (take at old) xs, length-take at old)

pub laid_none : {X : Type 0} (at : ℕ) (old : List X) → laid at [] old ≡ old
laid_none {X} at old =
    ap (λ (l : List X). l ++ drop (at + 0) old) (append-nil (take at old))
    ∙ ap (λ (n : ℕ). take at old ++ drop n old) (omega arith) ∙ take-append-drop at old

-- one element more
pub laid_set : {X : Type 0} (at : ℕ) (xs old : List X) (x d : X) → at + length xs < length old → set (laid at xs old) (at + length xs) x ≡ laid at (xs ++ x ∷ []) old
laid_set {X} at xs old x d h =
    let n : ℕ = at + length xs in
    let long = front at xs old (omega arith) in
    ap (λ (l : List X). set (take at old ++ xs ++ l) n x) (drop_more old n d h)
    ∙ set_at (take at old ++ xs) (get_or old n d) (drop (n + 1) old) x n long
    ∙ ap (λ (l : List X). l) (sym (append_assoc (take at old ++ xs) (x ∷ []) (drop (n + 1) old)))
    ∙ ap (λ (l : List X). l ++ drop (n + 1) old) (append_assoc (take at old) xs (x ∷ []))
    ∙ ap (λ (k : ℕ). take at old ++ (xs ++ x ∷ []) ++ drop k old) (omega (arith, length-append xs (x ∷ [])))

-- a write right behind another
pub laid_twice : {X : Type 0} (at : ℕ) (xs ys old : List X) → at + length xs + length ys ≤ length old → laid (at + length xs) ys (laid at xs old) ≡ laid at (xs ++ ys) old
laid_twice {X} at xs ys old h =
    let n : ℕ = at + length xs in
    let long = front at xs old (omega arith) in
    let a : take n (laid at xs old) ≡ take at old ++ xs = take_at (take at old ++ xs) (drop n old) n long in
    let b : drop (n + length ys) (laid at xs old) ≡ drop (at + length (xs ++ ys)) old =
    sym (drop-drop (length ys) n (laid at xs old)) ∙ ap (drop (length ys)) (drop_at (take at old ++ xs) (drop n old) n long)
    ∙ drop-drop (length ys) n old ∙ ap (λ (k : ℕ). drop k old) (omega (arith, length-append xs ys)) in
    ap (λ (l : List X). l ++ ys ++ drop (n + length ys) (laid at xs old)) a
    ∙ ap (λ (l : List X). take at old ++ xs ++ ys ++ l) b
    ∙ ap (λ (l : List X). l ++ drop (at + length (xs ++ ys)) old) (append_assoc (take at old) xs ys)

pub take-laid : {X : Type 0} (at : ℕ) (xs old : List X) → at + length xs ≤ length old → take (at + length xs) (laid at xs old) ≡ take at old ++ xs
take-laid at xs old h = take_at (take at old ++ xs) (drop (at + length xs) old) (at + length xs) (front at xs old h)

pub map-laid : {X Y : Type 0} (f : X → Y) (at : ℕ) (xs old : List X) → map f (laid at xs old) ≡ laid at (map f xs) (map f old)
map-laid {X} {Y} f at xs old =
    map-append f (take at old ++ xs) (drop (at + length xs) old)
    ∙ ap₂ (λ (a b : List Y). a ++ b) (map-append f (take at old) xs ∙ ap (λ (l : List Y). l ++ map f xs) (sym (take-map f at old)))
    (sym (drop-map f (at + length xs) old) ∙ ap (λ (k : ℕ). drop (at + k) (map f old)) (sym (length-map xs f)))

-- what stands in front of the part, in it and behind it
pub laid_before : {X : Type 0} (at : ℕ) (xs old : List X) (i : ℕ) (d : X) → i < at → at ≤ length old → get_or (laid at xs old) i d ≡ get_or old i d
laid_before {X} at xs old i d low h =
    let long : length (take at old) ≡ at = omega (arith, length-take at old) in
    ap (λ (l : List X). get_or l i d) (append_assoc (take at old) xs (drop (at + length xs) old))
    ∙ get_or_append_left (take at old) (xs ++ drop (at + length xs) old) d i (omega arith) ∙ get_or-take at old i d low

pub laid_in : {X : Type 0} (at : ℕ) (xs old : List X) (j : ℕ) (d : X) → j < length xs → at + length xs ≤ length old → get_or (laid at xs old) (at + j) d ≡ get_or xs j d
laid_in {X} at xs old j d low h =
    let long : length (take at old) ≡ at = omega (arith, length-take at old) in
    ap (λ (l : List X). get_or l (at + j) d) (append_assoc (take at old) xs (drop (at + length xs) old))
    ∙ get_or-append_right (take at old) (xs ++ drop (at + length xs) old) at (at + j) d long (omega arith)
    ∙ ap (λ (k : ℕ). get_or (xs ++ drop (at + length xs) old) k d) (omega arith)
    ∙ get_or_append_left xs (drop (at + length xs) old) d j low

pub laid_behind : {X : Type 0} (at : ℕ) (xs old : List X) (i : ℕ) (d : X) → at + length xs ≤ i → at + length xs ≤ length old → get_or (laid at xs old) i d ≡ get_or old i d
laid_behind {X} at xs old i d high h =
    get_or-append_right (take at old ++ xs) (drop (at + length xs) old) (at + length xs) i d (front at xs old h) high
    ∙ get_or-drop (at + length xs) old (i - (at + length xs)) d
    ∙ ap (λ (k : ℕ). get_or old k d) (omega arith)

-- one element more is laid right behind
pub laid_more : {X : Type 0} (at end : ℕ) (xs old now new : List X) (x : X) → now ≡ laid at xs old → end ≡ at + length xs → new ≡ laid end (x ∷ []) now → at + length xs < length old → new ≡ laid at (xs ++ x ∷ []) old
laid_more {X} at end xs old now new x was behind is room =
    is ∙ ap₂ (λ (e : ℕ) (l : List X). laid e (x ∷ []) l) behind was ∙ laid_twice at xs (x ∷ []) old (omega arith)

-- a write of one element
pub laid_one : {X : Type 0} (i : ℕ) (x : X) (old : List X) → i < length old → set old i x ≡ laid i (x ∷ []) old
laid_one {X} i x old low =
    let behind : suc i ≡ i + length (x ∷ []) = omega arith in
    set_split old i x low
    ∙ sym (append_assoc (take i old) (x ∷ []) (drop (suc i) old))
    ∙ ap (λ (k : ℕ). (take i old ++ x ∷ []) ++ drop k old) behind
