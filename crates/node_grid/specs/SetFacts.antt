-- Facts of sets of nodes, and of what is counted that several crates cite.
use Rattle.std.proofs.Common.{Bool, List, Option, [], ap, append-nil, ap₂, arith, eq-eqb, eqb-true, false, get_or, inl, inr, le-ltb, length, lt-ltb, ne_eqb, not, refl, subst, suc, sym, take, true, zero, ℕ, ℤ, ◌&&◌, ◌*◌, ◌++◌, ◌+◌, ◌-◌, ◌<◌, ◌==◌, ◌||◌, ◌∙◌, ◌∷◌, ◌≡◌, ◌≢◌, ◌≤◌}
use Rattle.std.proofs.lemmas.Bool.{both_ways, cases_Bool, cases_lt, cond-false, cond-true, or_cases, or_left, or_parts, or_right}
use Rattle.std.proofs.lemmas.Grind.{flat_map-append}
use Rattle.std.proofs.lemmas.List.{map-id, take_more}
use Rattle.std.proofs.lemmas.List.FromFn.{map-range_with_len_more}
use Rattle.std.specs.List.{cons_option, filter, filter_map, flat_map, list_all, range_with_len}
use Rattle.std.specs.Prelude.{nat_lt}
use mir.Val.{bool_byte}
use Rattle.node_grid.specs.Count.{Distinct, bit, count}
use Rattle.node_grid.specs.ListFacts.{all_range, range_next}
use Rattle.node_grid.specs.ListLaws.{bit_le, count-more, has_push}
use Rattle.node_grid.specs.NodeSet.{IsIdSet, has_id, ids_below, minus_of, without_id}
use Rattle.node_grid.specs.NodeSetLaws.{count-below, filter_every, filter_none, filter_range, has-range, has-without_id, has_filtered, hasnt-above, ids_where-within}

-- one of few is one of more
pub IsIdSet-wider : (n m : ℕ) (s : List ℕ) → n ≤ m → IsIdSet n s → IsIdSet m s
IsIdSet-wider n m s few is =
    is ∙ sym (ids_where-within (has_id s) m n few)
    ∙ filter_range (λ j. nat_lt j n && has_id s j) (has_id s) 0 m (λ j from to. elim (cases_lt j n) [
      | inl low ↦ ap (λ (b : Bool). b && has_id s j) (lt-ltb j n low)
      | inr high ↦ ap (λ (b : Bool). b && has_id s j) (le-ltb j n high) ∙ sym (hasnt-above n s j is high)
    ])

pub all_ids : (f : ℕ → Bool) (n : ℕ) → ((k : ℕ) → k < n → f k ≡ true) → list_all f (ids_below n) ≡ true
all_ids f n h = all_range f 0 n (λ k l u. h k (omega arith))

pub all_within : (s t : List ℕ) (j : ℕ) → minus_of s t ≡ [] → has_id s j ≡ true → has_id t j ≡ true
all_within [] t j none on = cc
all_within (x ∷ s) t j none on = elim (cases_Bool (has_id t x)) [
  | inl there ↦ elim (or_cases (x == j) (has_id s j) on) [
    | inl e ↦ ap (has_id t) (sym (eqb-true x j e)) ∙ there
    | inr later ↦ all_within s t j (sym (cond-false (not (has_id t x)) (x ∷ minus_of s t) (minus_of s t) (ap not there)) ∙ none) later
  ]
  | inr off ↦ let clash : x ∷ minus_of s t ≡ [] = sym (cond-true (not (has_id t x)) (x ∷ minus_of s t) (minus_of s t) (ap not off)) ∙ none in absurd (cc)
]

pub below_of : (n k : ℕ) → has_id (ids_below n) k ≡ true → k < n
below_of n k on = elim (cases_lt k n) [
  | inl low ↦ low
  | inr high ↦ absurd (both_ways _ (hasnt-above n (ids_below n) k (sym (filter_every (has_id (ids_below n)) 0 n (λ i from to. has-range 0 n i from to))) high) on)
]

pub byte_is : (b : Bool) → bool_byte b ≡ bit b
byte_is true = refl
byte_is false = refl

pub count_all : (qs : List ℕ) → count (λ q. true) qs ≡ length qs
count_all [] = refl
count_all (q ∷ qs) = omega (arith, count_all qs)

pub count_few : (f : ℕ → Bool) (n : ℕ) → count f (ids_below n) ≤ n
count_few f zero = omega arith
count_few f (suc n) = let e : n + 1 ≡ suc n = omega arith in let m = rw e at (count-below f n) in omega (arith, count_few f n, bit_le (f n))

pub count_had : (members odd : List ℕ) → count (λ q. has_id odd q) members + length (minus_of members odd) ≡ length members
count_had [] odd = refl
count_had (x ∷ xs) odd =
    let rest = count_had xs odd in
    elim (cases_Bool (has_id odd x)) [
      | inl on ↦ let a : bit (has_id odd x) ≡ 1 = ap bit on in let e = ap length (cond-false (not (has_id odd x)) (x ∷ minus_of xs odd) (minus_of xs odd) (ap not on)) in omega arith
      | inr off ↦ let a : bit (has_id odd x) ≡ 0 = ap bit off in let e = ap length (cond-true (not (has_id odd x)) (x ∷ minus_of xs odd) (minus_of xs odd) (ap not off)) in omega arith
    ]

pub count_idle : (members full odd : List ℕ) → count (λ q. not (has_id odd q) && not (has_id full q)) members ≡ length (minus_of (minus_of members odd) full)
count_idle [] full odd = refl
count_idle (x ∷ xs) full odd =
    let rest = count_idle xs full odd in
    let n : List ℕ = minus_of xs odd in
    elim (cases_Bool (has_id odd x)) [
      | inl on ↦
          let a : bit (not (has_id odd x) && not (has_id full x)) ≡ 0 = ap (λ (b : Bool). bit (not b && not (has_id full x))) on in
          let e = ap (λ (ys : List ℕ). length (minus_of ys full)) (cond-false (not (has_id odd x)) (x ∷ n) n (ap not on)) in
          omega arith
      | inr off ↦
          let a : bit (not (has_id odd x) && not (has_id full x)) ≡ bit (not (has_id full x)) = ap (λ (b : Bool). bit (not b && not (has_id full x))) off in
          let e = ap (λ (ys : List ℕ). length (minus_of ys full)) (cond-true (not (has_id odd x)) (x ∷ n) n (ap not off)) in
          elim (cases_Bool (has_id full x)) [
            | inl f ↦ let b : bit (not (has_id full x)) ≡ 0 = ap (λ (t : Bool). bit (not t)) f in let g = ap length (cond-false (not (has_id full x)) (x ∷ minus_of n full) (minus_of n full) (ap not f)) in omega arith
            | inr u ↦ let b : bit (not (has_id full x)) ≡ 1 = ap (λ (t : Bool). bit (not t)) u in let g = ap length (cond-true (not (has_id full x)) (x ∷ minus_of n full) (minus_of n full) (ap not u)) in omega arith
          ]
    ]

pub count_members : (f g : ℕ → Bool) (xs : List ℕ) → ((x : ℕ) → has_id xs x ≡ true → f x ≡ g x) → count f xs ≡ count g xs
count_members f g [] h = refl
count_members f g (x ∷ xs) h = ap₂ ◌+◌ (ap bit (h x (or_left _ _ (eq-eqb x x refl)))) (count_members f g xs (λ y on. h y (or_right _ _ on)))

pub count_none : (p : ℕ → Bool) (a n : ℕ) → ((k : ℕ) → a ≤ k → k < a + n → p k ≡ false) → count p (range_with_len a n) ≡ 0
count_none p a zero h = refl
count_none p a (suc n) h = omega (arith, ap bit (h a (omega arith) (omega arith)), count_none p (a + 1) n (λ k l u. h k (omega arith) (omega arith)))

pub count_range : (f g : ℕ → Bool) (a n : ℕ) → ((k : ℕ) → a ≤ k → k < a + n → f k ≡ g k) → count f (range_with_len a n) ≡ count g (range_with_len a n)
count_range f g a zero h = refl
count_range f g a (suc n) h = ap₂ (λ b c. bit b + c) (h a (omega arith) (omega arith)) (count_range f g (a + 1) n (λ k l u. h k (omega arith) (omega arith)))

pub count_ids : (f g : ℕ → Bool) (n : ℕ) → ((k : ℕ) → k < n → f k ≡ g k) → count f (ids_below n) ≡ count g (ids_below n)
count_ids f g n h = count_range f g 0 n (λ k l u. h k (omega arith))

-- one path more
pub count_take : {X : Type 0} (test : X → Bool) (xs : List X) (k : ℕ) (d : X) → k < length xs → count test (take (k + 1) xs) ≡ count test (take k xs) + bit (test (get_or xs k d))
count_take test xs k d low = ap (count test) (take_more xs k d low) ∙ count-more test (take k xs) (get_or xs k d)

pub disagrees-present : (p d : Bool) → bit (p && d) ≤ bit p
disagrees-present true d = bit_le d
disagrees-present false d = omega arith

-- what holds of the nodes before holds of the next one too
pub each_more : (P : ℕ → Type 0) (ys : List ℕ) (q : ℕ) → ((i : ℕ) → has_id ys i ≡ true → P i) → P q → (i : ℕ) → has_id (ys ++ q ∷ []) i ≡ true → P i
each_more P ys q before here i on = elim (or_cases (has_id ys i) (q == i) (sym (has_push ys q i) ∙ on)) [
  | inl was ↦ before i was
  | inr is ↦ subst P (eqb-true q i is) here
]

pub empty_set : (n : ℕ) → IsIdSet n []
empty_set n = sym (filter_none (λ k. false) 0 n (λ k a b. refl))

pub filter_map_members : (f g : ℕ → Option ℤ) (ms : List ℕ) → ((q : ℕ) → has_id ms q ≡ true → f q ≡ g q) → filter_map f ms ≡ filter_map g ms
filter_map_members f g [] h = refl
filter_map_members f g (q ∷ ms) h = ap₂ cons_option (h q (or_left (q == q) (has_id ms q) (eq-eqb q q refl))) (filter_map_members f g ms (λ x on. h x (or_right (q == x) (has_id ms x) on)))

pub first_has : (xs : List ℕ) → 0 < length xs → (k : ℕ) × (has_id xs k ≡ true)
first_has [] h = absurd (omega arith)
first_has (x ∷ xs) h = (x, or_left (x == x) (has_id xs x) (eq-eqb x x refl))

-- one task more
pub flat_map_next : (f : ℕ → List ℕ) (n : ℕ) → flat_map f (ids_below (n + 1)) ≡ flat_map f (ids_below n) ++ f n
flat_map_next f n =
    ap (flat_map f) (sym (map-id (ids_below (n + 1))) ∙ map-range_with_len_more (λ x. x) 0 n n (omega arith) ∙ ap (λ xs. xs ++ n ∷ []) (map-id (ids_below n)))
    ∙ flat_map-append f (ids_below n) (n ∷ []) ∙ ap (λ xs. flat_map f (ids_below n) ++ xs) (append-nil (f n))

-- of a path with a last node
pub front_distinct : (path : List ℕ) (q : ℕ) → Distinct (path ++ q ∷ []) → Distinct path
front_distinct [] q d = tt
front_distinct (x ∷ xs) q d = ((or_parts _ _ (sym (has_push xs q x) ∙ d.0)).0, front_distinct xs q d.1)

pub has-without : (s : List ℕ) (q x : ℕ) → x ≢ q → has_id s x ≡ true → has_id (without_id s q) x ≡ true
has-without s q x ne on = has-without_id s q x ∙ ap₂ (λ (a b : Bool). not a && b) (ne_eqb x q ne) on

-- a channel of a longer list is one of the shorter list, or the last one
pub has_before : (due : List ℕ) (k x : ℕ) → k < length due → has_id (take (k + 1) due) x ≡ true → x ≢ get_or due k 0 → has_id (take k due) x ≡ true
has_before due k x low on ne = elim (or_cases (has_id (take k due) x) (get_or due k 0 == x) (sym (has_push (take k due) (get_or due k 0) x) ∙ ap (λ ds. has_id ds x) (sym (take_more due k 0 low)) ∙ on)) [
  | inl before ↦ before
  | inr last ↦ let other : (get_or due k 0 == x) ≡ false = ne_eqb (get_or due k 0) x (λ e. ne (sym e)) in cc
]

pub has_below : (n k : ℕ) → k < n → has_id (ids_below n) k ≡ true
has_below n k low = has-range 0 n k (omega arith) (omega arith)

-- what was gone through stands in front of the rest
pub has_in_front : (ys zs : List ℕ) (k : ℕ) → has_id ys k ≡ true → has_id (ys ++ zs) k ≡ true
has_in_front [] zs k h = absurd (cc)
has_in_front (y ∷ ys) zs k h = elim (or_cases (y == k) (has_id ys k) h) [
  | inl here ↦ or_left (y == k) (has_id (ys ++ zs) k) here
  | inr later ↦ or_right (y == k) (has_id (ys ++ zs) k) (has_in_front ys zs k later)
]

pub has_middle : (ys : List ℕ) (q : ℕ) (rest : List ℕ) → has_id (ys ++ q ∷ rest) q ≡ true
has_middle [] q rest = or_left (q == q) (has_id rest q) (eq-eqb q q refl)
has_middle (y ∷ ys) q rest = or_right (y == q) (has_id (ys ++ q ∷ rest) q) (has_middle ys q rest)

pub has_minus : (xs ys : List ℕ) (x : ℕ) → has_id (minus_of xs ys) x ≡ (not (has_id ys x) && has_id xs x)
has_minus xs ys x = has_filtered (λ k. not (has_id ys k)) xs x

-- all nodes but one
pub has_rest : (s : List ℕ) (c q : ℕ) → has_id s q ≡ true → c ≢ q → has_id (without_id s c) q ≡ true
has_rest s c q on ne = has-without s c q (λ e. ne (sym e)) on

pub ids_next : (n : ℕ) → ids_below (n + 1) ≡ ids_below n ++ n ∷ []
ids_next n =
    ap ids_below (let e : n + 1 ≡ suc n = omega arith in e) ∙ range_next 0 n ∙ ap (λ (k : ℕ). ids_below n ++ k ∷ []) (let z : 0 + n ≡ n = omega arith in z)

-- how many pass
pub length_filter : (f : ℕ → Bool) (xs : List ℕ) → length (filter f xs) ≡ count f xs
length_filter f [] = refl
length_filter f (x ∷ xs) = elim (cases_Bool (f x)) [
  | inl e ↦ rw e (omega (arith, length_filter f xs))
  | inr e ↦ rw e (omega (arith, length_filter f xs))
]

pub member-lt : (n : ℕ) (s : List ℕ) (q : ℕ) → IsIdSet n s → has_id s q ≡ true → q < n
member-lt n s q h on = elim (cases_lt q n) [
  | inl l ↦ l
  | inr m ↦ absurd (both_ways _ (hasnt-above n s q h m) on)
]

-- the member that comes next
pub next_on : (all ys rest left : List ℕ) (q : ℕ) → all ≡ ys ++ left → left ≡ q ∷ rest → has_id all q ≡ true
next_on all ys rest left q split steps = ap (λ (xs : List ℕ). has_id xs q) (split ∙ ap (λ (xs : List ℕ). ys ++ xs) steps) ∙ has_middle ys q rest

pub low_of : (n : ℕ) (nodes ys rest left : List ℕ) (q : ℕ) → IsIdSet n nodes → nodes ≡ ys ++ left → left ≡ q ∷ rest → q < n
low_of n nodes ys rest left q ids split steps = member-lt n nodes q ids (next_on nodes ys rest left q split steps)

pub none_counted : (f : ℕ → Bool) (qs : List ℕ) → ((q : ℕ) → has_id qs q ≡ true → f q ≡ false) → count f qs ≡ 0
none_counted f [] h = refl
none_counted f (q ∷ qs) h =
    let here : bit (f q) ≡ 0 = ap bit (h q (or_left _ _ (eq-eqb q q refl))) in
    let rest = none_counted f qs (λ x on. h x (or_right (q == x) _ on)) in
    omega arith

pub not_rest : (s : List ℕ) (i : ℕ) → has_id (without_id s i) i ≡ false
not_rest s i = has-without_id s i i ∙ ap (λ (b : Bool). not b && has_id s i) (eq-eqb i i refl)

-- a node and one that a set hasn't
pub off_apart : (nodes : List ℕ) (c i : ℕ) → has_id nodes c ≡ false → has_id nodes i ≡ true → c ≢ i
off_apart nodes c i off on e = both_ways _ off (ap (has_id nodes) e ∙ on)

pub off_rest : (awake nodes : List ℕ) (c : ℕ) → nodes ≡ without_id awake c → has_id nodes c ≡ false
off_rest awake nodes c is = ap (λ (s : List ℕ). has_id s c) is ∙ not_rest awake c

pub on_rest : (all others : List ℕ) (q i : ℕ) → others ≡ without_id all q → has_id all i ≡ true → q ≢ i → has_id others i ≡ true
on_rest all others q i is on ne = ap (λ (s : List ℕ). has_id s i) is ∙ has-without all q i (λ e. ne (sym e)) on

pub regular_fewer : (members odd regular : List ℕ) (n k : ℕ) → n ≡ length members → k ≡ length regular → regular ≡ minus_of members odd → k ≤ n
regular_fewer members odd regular n k a b e = omega (arith, count_had members odd, ap length e)

pub sides : (members full odd regular left : List ℕ) (n k j m o z : ℕ) → o ≡ count (λ q. has_id odd q) members → z ≡ count (λ q. not (has_id odd q) && not (has_id full q)) members
    → n ≡ length members → k ≡ length regular → j ≡ length left → regular ≡ minus_of members odd → left ≡ minus_of regular full
    → 2 * (n - k) + j + m ≡ 2 * o + z + m
sides members full odd regular left n k j m o z eo ez en ek ej ee el =
    let a = count_had members odd in
    let b = count_idle members full odd in
    let e = ap length ee in
    let l = ap length el in
    let f = ap (λ (ys : List ℕ). length (minus_of ys full)) ee in
    omega arith

pub split_off : (path : List ℕ) (q : ℕ) → Distinct (path ++ q ∷ []) → has_id path q ≡ false
split_off [] q d = refl
split_off (x ∷ xs) q d = elim (cases_Bool (x == q)) [
  | inl y ↦ absurd (both_ways _ d.0 (has_push xs q x ∙ or_right (has_id xs x) (q == x) (eq-eqb q x (sym (eqb-true x q y)))))
  | inr n ↦ ap₂ (λ (a b : Bool). a || b) n (split_off xs q d.1)
]

pub without_other : (xs : List ℕ) (x : ℕ) → has_id xs x ≡ false → without_id xs x ≡ xs
without_other [] x h = refl
without_other (y ∷ ys) x h = let p = or_parts (y == x) _ h in let rest = without_other ys x p.1 in rw p.0 (ap (λ (zs : List ℕ). y ∷ zs) rest)
