-- Facts of lists that several crates cite.
use Rattle.std.proofs.Common.{Bool, List, None, Option, Some, [], ap, append-nil, append_assoc, ap₂, arith, drop, eqb-true, false, get_or, inl, inr, length, length-drop, map, refl, set, subst, suc, sym, take, true, zero, ℕ, ℤ, ◌&&◌, ◌*◌, ◌++◌, ◌+◌, ◌-◌, ◌<◌, ◌==◌, ◌||◌, ◌∙◌, ◌∷◌, ◌≡◌, ◌≢◌, ◌≤◌}
use Rattle.std.proofs.Math.Bool.{and-false}
use Rattle.std.proofs.lemmas.Bool.{and_from, and_parts, cases_Bool, cases_eq, cond-false, cond-true, false≢true, or_from, or_parts}
use Rattle.std.proofs.lemmas.List.{get_or-append_right, get_or-drop, length-map, length-take-le}
use Rattle.std.proofs.lemmas.List.Elements.{All-cons, All-get_or, All-nil}
use Rattle.std.specs.Cmp.Lexicographic.{pointwise}
use Rattle.std.specs.Io.KnownBytes.{Consumes, Keeps}
use Rattle.std.specs.List.{AllByRecursion, find, list_all, list_any, range_with_len}
use Rattle.std.specs.Option.{option_eq}
use Rattle.std.specs.Ordering.{int_eq}
use Rattle.std.specs.Prelude.{All, slice_get}
use Rattle.node_grid.specs.TruthFacts.{option_same, or_assoc, or_false}

pub all_append : {X : Type 0} (f : X → Bool) (xs ys : List X) → list_all f xs ≡ true → list_all f ys ≡ true → list_all f (xs ++ ys) ≡ true
all_append f [] ys a b = b
all_append f (x ∷ xs) ys a b = let p = and_parts _ _ a in and_from _ _ p.0 (all_append f xs ys p.1 b)

pub all_map : {X Y : Type 0} (P : Y → Type 0) (f : X → Y) (xs : List X) → ((x : X) → P (f x)) → All P (map f xs)
all_map P f [] h = All-nil P
all_map P f (x ∷ xs) h = All-cons P (f x) (map f xs) (h x) (all_map P f xs h)

pub all_more : (p : ℕ → Bool) (ys : List ℕ) (x : ℕ) → list_all p ys ≡ true → p x ≡ true → list_all p (ys ++ x ∷ []) ≡ true
all_more p [] x a h = and_from (p x) true h refl
all_more p (y ∷ ys) x a h = let s = and_parts (p y) (list_all p ys) a in and_from (p y) _ s.0 (all_more p ys x s.1 h)

pub all_range : (f : ℕ → Bool) (a n : ℕ) → ((k : ℕ) → a ≤ k → k < a + n → f k ≡ true) → list_all f (range_with_len a n) ≡ true
all_range f a zero h = refl
all_range f a (suc n) h = and_from _ _ (h a (omega arith) (omega arith)) (all_range f (a + 1) n (λ k l u. h k (omega arith) (omega arith)))

pub any_more : (f : ℕ → Bool) (a n : ℕ) → list_any f (range_with_len a (suc n)) ≡ (list_any f (range_with_len a n) || f (a + n))
any_more f a zero = or_false (f a) ∙ ap f (let e : a ≡ a + 0 = omega arith in e)
any_more f a (suc n) =
    ap (λ (b : Bool). f a || b) (any_more f (a + 1) n ∙ ap (λ (m : ℕ). list_any f (range_with_len (a + 1) n) || f m) (let e : a + 1 + n ≡ a + suc n = omega arith in e))
    ∙ sym (or_assoc (f a) (list_any f (range_with_len (a + 1) n)) (f (a + suc n)))

pub any_push : {X : Type 0} (f : X → Bool) (xs : List X) (x : X) → list_any f xs ≡ false → f x ≡ false → list_any f (xs ++ x ∷ []) ≡ false
any_push f [] x a b = or_from _ _ b refl
any_push f (y ∷ ys) x a b = let p = or_parts _ _ a in or_from _ _ p.0 (any_push f ys x p.1 b)

pub consumes_kept : (a b c : Option (List ℕ)) (bs : List ℕ) → Consumes a b bs → Keeps b c → Consumes a c bs
consumes_kept None b c bs p q = tt
consumes_kept (Some x) None c bs p q = absurd p
consumes_kept (Some x) (Some y) None bs p q = absurd q
consumes_kept (Some x) (Some y) (Some z) bs p q = p ∙ ap (λ w. bs ++ w) (sym q)

pub every_append : {X : Type 0} (P : X → Type 0) (xs ys : List X) → AllByRecursion P xs → AllByRecursion P ys → AllByRecursion P (xs ++ ys)
every_append P [] ys a b = b
every_append P (x ∷ xs) ys a b = (a.0, every_append P xs ys a.1 b)

pub every_weaker : {X : Type 0} (P Q : X → Type 0) → ((x : X) → P x → Q x) → (xs : List X) → AllByRecursion P xs → AllByRecursion Q xs
every_weaker P Q h [] a = tt
every_weaker P Q h (x ∷ xs) a = (h x a.0, every_weaker P Q h xs a.1)

pub few_nodes : (n k : ℕ) (members : List ℕ) → n ≤ 16 → k ≡ length members → length members ≤ n → k ≤ 16
few_nodes n k members few is short = omega arith

pub find_passes : (f : ℕ → Bool) (xs : List ℕ) (r : ℕ) → find f xs ≡ Some r → f r ≡ true
find_passes f [] r h = cc
find_passes f (x ∷ xs) r h = elim (cases_Bool (f x)) [
  | inl passes ↦
      let e : Some x ≡ Some r = sym (cond-true (f x) (Some x) (find f xs) passes) ∙ h in
      let d : x ≡ r = cc in
      ap f (sym d) ∙ passes
  | inr fails ↦ find_passes f xs r (sym (cond-false (f x) (Some x) (find f xs) fails) ∙ h)
]

pub got_other : {X : Type 0} (xs : List X) (i j : ℕ) (x : X) → j ≢ i → slice_get (set xs i x) j ≡ slice_get xs j
got_other [] i j x h = refl
got_other (y ∷ xs) zero zero x h = absurd (h refl)
got_other (y ∷ xs) zero (suc j) x h = refl
got_other (y ∷ xs) (suc i) zero x h = refl
got_other (y ∷ xs) (suc i) (suc j) x h = got_other xs i j x (λ e. h (ap (λ k. suc k) e))

pub got_set : {X : Type 0} (xs : List X) (i : ℕ) (x : X) → i < length xs → slice_get (set xs i x) i ≡ Some x
got_set [] i x h = absurd (omega arith)
got_set (y ∷ xs) zero x h = refl
got_set (y ∷ xs) (suc i) x h = got_set xs i x (omega arith)

pub length_mapped : {X Y : Type 0} (f : X → Y) (xs : List X) → length (map f xs) ≡ length xs
length_mapped f [] = refl
length_mapped f (x ∷ xs) = ap suc (length_mapped f xs)

pub map_map : {A B C : Type 0} (f : A → B) (g : B → C) (xs : List A) → map g (map f xs) ≡ map (λ x. g (f x)) xs
map_map f g [] = refl
map_map f g (x ∷ xs) = ap (λ ys. g (f x) ∷ ys) (map_map f g xs)

-- the element at which the loop stands is the one of the start
pub mapped_here : {X : Type 0} (f : X → X) (xs ys : List X) (i : ℕ) (x : X) → i < length xs → ys ≡ map f (take i xs) ++ drop i xs → x ≡ get_or ys i x → x ≡ get_or xs i x
mapped_here {X} f xs ys i x low e is =
    is ∙ ap (λ (zs : List X). get_or zs i x) e
    ∙ get_or-append_right (map f (take i xs)) (drop i xs) i i x (length-map (take i xs) f ∙ length-take-le i xs (omega arith)) (omega arith)
    ∙ get_or-drop i xs (i - i) x ∙ ap (λ (k : ℕ). get_or xs k x) (let q : i + (i - i) ≡ i = omega arith in q)

pub holds_here : {X : Type 0} (P : X → Type 0) (f : X → X) (xs ys : List X) (i : ℕ) (x : X) → i < length xs → ys ≡ map f (take i xs) ++ drop i xs → x ≡ get_or ys i x → All P xs → P x
holds_here P f xs ys i x low e is all = subst P (sym (mapped_here f xs ys i x low e is)) (All-get_or P xs i x low all)

pub middle_below : (n : ℕ) (ys rest : List ℕ) (x : ℕ) → All (λ k. k < n) (ys ++ x ∷ rest) → x < n
middle_below n [] rest x all = all 0 0 (omega arith)
middle_below n (y ∷ ys) rest x all = middle_below n ys rest x (λ k d l. all (suc k) d (omega arith))

-- ids pass together where each of them does
pub one_fails : (p : ℕ → Bool) (ys rest : List ℕ) (x : ℕ) → p x ≡ false → list_all p (ys ++ x ∷ rest) ≡ false
one_fails p [] rest x h = ap (λ b. b && list_all p rest) h
one_fails p (y ∷ ys) rest x h = ap (λ b. p y && b) (one_fails p ys rest x h) ∙ and-false (p y)

pub range_at : (f : ℕ → Bool) (a n k : ℕ) → list_all f (range_with_len a n) ≡ true → a ≤ k → k < a + n → f k ≡ true
range_at f a zero k h low high = absurd (omega arith)
range_at f a (suc n) k h low high = elim (cases_eq k a) [
  | inl e ↦ ap f e ∙ (and_parts _ _ h).0
  | inr more ↦ range_at f (a + 1) n k (and_parts _ _ h).1 (omega arith) (omega arith)
]

pub range_next : (a n : ℕ) → range_with_len a (suc n) ≡ range_with_len a n ++ (a + n) ∷ []
range_next a zero = let e : a ≡ a + 0 = omega arith in ap (λ x. x ∷ []) e
range_next a (suc n) = let e : a + 1 + n ≡ a + suc n = omega arith in ap (λ xs. a ∷ xs) (range_next (a + 1) n ∙ ap (λ x. range_with_len (a + 1) n ++ x ∷ []) e)

-- what stands at a place of a list, whatever stands for nothing
pub same_at : {X : Type 0} (xs : List X) (k : ℕ) (d e : X) → k < length xs → get_or xs k d ≡ get_or xs k e
same_at [] k d e low = absurd (omega arith)
same_at (x ∷ xs) zero d e low = refl
same_at (x ∷ xs) (suc k) d e low = same_at xs k d e (omega arith)

pub same_list : (xs ys : List ℕ) → pointwise ◌==◌ xs ys ≡ true → xs ≡ ys
same_list [] [] h = refl
same_list [] (y ∷ ys) h = cc
same_list (x ∷ xs) [] h = cc
same_list (x ∷ xs) (y ∷ ys) h = let p = and_parts (x == y) (pointwise ◌==◌ xs ys) h in ap₂ ◌∷◌ (eqb-true x y p.0) (same_list xs ys p.1)

pub split_all : (all ys left : List ℕ) → all ≡ ys ++ left → left ≡ [] → all ≡ ys
split_all all ys left split none = split ∙ ap (λ (xs : List ℕ). ys ++ xs) none ∙ append-nil ys

pub split_more : (all ys rest left : List ℕ) (q : ℕ) → all ≡ ys ++ left → left ≡ q ∷ rest → all ≡ (ys ++ q ∷ []) ++ rest
split_more all ys rest left q split steps = split ∙ ap (λ (xs : List ℕ). ys ++ xs) steps ∙ sym (append_assoc ys (q ∷ []) rest)

pub tail_shorter : {rest : List ℕ} {x : ℕ} {zs : List ℕ} → rest ≡ x ∷ zs → length zs < length rest
tail_shorter e = rw e (omega arith)

pub two_long : (j n : ℕ) (bytes : List ℕ) → j < n → length bytes ≡ 2 * n → 2 ≡ length (take (2 * j + 2 - 2 * j) (drop (2 * j) bytes))
two_long j n bytes h e =
    let long : 2 * j + 2 - 2 * j ≡ 2 = omega arith in
    sym (length-take-le (2 * j + 2 - 2 * j) (drop (2 * j) bytes) (omega (arith, length-drop (2 * j) bytes, h, e)) ∙ long)

pub votes_same : (xs ys : List (Option ℤ)) → pointwise (option_eq int_eq) xs ys ≡ true → xs ≡ ys
votes_same [] [] h = refl
votes_same [] (y ∷ ys) h = absurd (false≢true h)
votes_same (x ∷ xs) [] h = absurd (false≢true h)
votes_same (x ∷ xs) (y ∷ ys) h =
    let t = and_parts (option_eq int_eq x y) (pointwise (option_eq int_eq) xs ys) h in
    ap₂ (λ (z : Option ℤ) (zs : List (Option ℤ)). z ∷ zs) (option_same x y t.0) (votes_same xs ys t.1)
