-- What was heard as a list over all paths, and that what is settled depends on what was heard for real paths alone.
use Rattle.std.proofs.Common.{ℕ, zero, suc, ◌≡◌, ◌≢◌, ◌<◌, ◌≤◌, ◌+◌, ◌-◌, ◌==◌, ◌||◌, Bool, true, false, if◌then◌else◌, List, [], ◌∷◌, ◌++◌, length, map, refl, sym, ap, subst, ◌∙◌, inl, inr, arith, eq-eqb, eqb-true, ne_eqb}
use Rattle.std.specs.List.{AllByRecursion}
use Rattle.std.proofs.lemmas.Bool.{cases_Bool, cases_eq, cond-true, cond-false, both_ways, or_cases}
use Rattle.std.proofs.lemmas.List.{length_push}
use Rattle.node_grid.specs.NodeSet.{has_id, without_id}
use Rattle.node_grid.specs.Count.{Distinct}
use Rattle.node_grid.specs.ListFacts.{map_map}
use Rattle.node_grid.specs.SetFacts.{not_rest, has-without}
use Rattle.omh_paths.specs.declared.wrapped.Wrapped.{Wrapped}
use Rattle.omh_paths.specs.declared.wrapped.Wrapped.TheVariants.{Fault}
use Rattle.omh_paths.specs.Wrapped.{wrapped, unwrapped}
use Rattle.omh_paths.specs.Majority.{majority}
use Rattle.omh_paths.specs.Paths.{same_nodes, outside, paths_of_length, path_count, place_in, path_at, IsListed}
use Rattle.node_grid.specs.ListLaws.{has_push}
use Rattle.omh_paths.specs.PathLaws.{map_alike, all_outside, Distinct-push, off_from}
use Rattle.omh_paths.specs.PathLists.{same_nodes-tells, has-of-without, length-paths, place-lt, IsListed-at, Distinct-without}
use Rattle.omh_paths.specs.Facts.{all_at}
use Rattle.omh.specs.Omh.{Ear, own_term, settled_within, settled_at}
use Rattle.omh.specs.Heard.{heard_in, paths_up_to, heard_paths, entry, with_heard}

-- a path for which a node hears something: distinct other members, 1 to rounds + 1 of them
pub record IsHeardPath (members : List ℕ) (me rounds : ℕ) (path : List ℕ) : Type 0 where
  pub distinct : Distinct path
  pub within : (q : ℕ) → has_id path q ≡ true → has_id members q ≡ true
  pub other : has_id path me ≡ false
  pub some : 0 < length path
  pub short : length path ≤ rounds + 1

-- ---- the list has each such path

place-append : (xs ys : List (List ℕ)) (q : List ℕ) → place_in xs q < length xs → place_in (xs ++ ys) q < length (xs ++ ys)
place-append [] ys q h = absurd (omega arith)
place-append (x ∷ xs) ys q h = elim (cases_Bool (same_nodes x q)) [
  | inl y ↦ omega (arith, cond-true (same_nodes x q) 0 (1 + place_in (xs ++ ys) q) y)
  | inr n ↦
      let k : place_in (x ∷ xs) q ≡ 1 + place_in xs q = cond-false (same_nodes x q) 0 (1 + place_in xs q) n in
      omega (arith, cond-false (same_nodes x q) 0 (1 + place_in (xs ++ ys) q) n, place-append xs ys q (omega arith))
]

place-behind : (xs ys : List (List ℕ)) (q : List ℕ) → place_in ys q < length ys → place_in (xs ++ ys) q < length (xs ++ ys)
place-behind [] ys q h = h
place-behind (x ∷ xs) ys q h = elim (cases_Bool (same_nodes x q)) [
  | inl y ↦ omega (arith, cond-true (same_nodes x q) 0 (1 + place_in (xs ++ ys) q) y)
  | inr n ↦ omega (arith, cond-false (same_nodes x q) 0 (1 + place_in (xs ++ ys) q) n, place-behind xs ys q h)
]

stands_up_to : (s : List ℕ) (n : ℕ) (q : List ℕ) → Distinct s → Distinct q → ((x : ℕ) → has_id q x ≡ true → has_id s x ≡ true) → 0 < length q → length q ≤ n
    → place_in (paths_up_to s n) q < length (paths_up_to s n)
stands_up_to s zero q d real within some short = absurd (omega arith)
stands_up_to s (suc n) q d real within some short = elim (cases_eq (length q) (suc n)) [
  | inl e ↦ place-behind (paths_up_to s n) (paths_of_length s (suc n)) q
      (subst (λ (k : ℕ). place_in (paths_of_length s k) q < length (paths_of_length s k)) e
      (let low = place-lt s q d real within in let all = length-paths s (length q) d in omega arith))
  | inr ne ↦ place-append (paths_up_to s n) (paths_of_length s (suc n)) q (stands_up_to s n q d real within some (omega arith))
]

heard-entries : {V : Type 0} (f : List ℕ → Wrapped V) (ps : List (List ℕ)) (q : List ℕ) → place_in ps q < length ps → heard_in (map (entry f) ps) q ≡ f q
heard-entries f [] q h = absurd (omega arith)
heard-entries f (p ∷ ps) q h = elim (cases_Bool (same_nodes p q)) [
  | inl y ↦ cond-true (same_nodes p q) (f p) (heard_in (map (entry f) ps) q) y ∙ ap f (same_nodes-tells p q y)
  | inr n ↦
      let k : place_in (p ∷ ps) q ≡ 1 + place_in ps q = cond-false (same_nodes p q) 0 (1 + place_in ps q) n in
      cond-false (same_nodes p q) (f p) (heard_in (map (entry f) ps) q) n ∙ heard-entries f ps q (omega arith)
]

pub within_others : {members : List ℕ} {me rounds : ℕ} {path : List ℕ} → IsHeardPath members me rounds path → (q : ℕ) → has_id path q ≡ true → has_id (without_id members me) q ≡ true
within_others {members} {me} {rounds} {path} h q on = has-without members me q (λ e. both_ways _ h.other (ap (has_id path) (sym e) ∙ on)) (h.within q on)

-- what was heard for such a path is what stands in the list for it
pub heard_in-at : {V : Type 0} (f : List ℕ → Wrapped V) (members : List ℕ) (me rounds : ℕ) (path : List ℕ) → Distinct members → IsHeardPath members me rounds path
    → heard_in (map (entry f) (heard_paths members me rounds)) path ≡ f path
heard_in-at f members me rounds path d h =
    heard-entries f (heard_paths members me rounds) path
    (stands_up_to (without_id members me) (rounds + 1) path (Distinct-without members me d) h.distinct (within_others h) h.some h.short)

-- ---- the list has no other path

all_append : (P : List ℕ → Type 0) (xs ys : List (List ℕ)) → AllByRecursion P xs → AllByRecursion P ys → AllByRecursion P (xs ++ ys)
all_append P [] ys a b = b
all_append P (x ∷ xs) ys a b = (a.0, all_append P xs ys a.1 b)

pub has-without-me : (members : List ℕ) (me : ℕ) (path : List ℕ) → ((q : ℕ) → has_id path q ≡ true → has_id (without_id members me) q ≡ true) → has_id path me ≡ false
has-without-me members me path within = elim (cases_Bool (has_id path me)) [
  | inr n ↦ n
  | inl y ↦ absurd (both_ways _ (not_rest members me) (within me y))
]

listed_up_to : (members : List ℕ) (me rounds n : ℕ) → Distinct members → n ≤ rounds + 1 → AllByRecursion (IsHeardPath members me rounds) (paths_up_to (without_id members me) n)
listed_up_to members me rounds zero d h = tt
listed_up_to members me rounds (suc n) d h =
    let s : List ℕ = without_id members me in
    let ds : Distinct s = Distinct-without members me d in
    all_append (IsHeardPath members me rounds) (paths_up_to s n) (paths_of_length s (suc n)) (listed_up_to members me rounds n d (omega arith))
    (all_at (IsHeardPath members me rounds) (paths_of_length s (suc n)) (λ k l.
    let low : k < path_count (length s) (suc n) = omega (arith, length-paths s (suc n) ds) in
    let listed : IsListed s (suc n) (path_at (paths_of_length s (suc n)) k) = IsListed-at s (suc n) k ds low in
    record {
      distinct = listed.distinct;
      within = λ q on. has-of-without members me q (listed.within q on);
      other = has-without-me members me (path_at (paths_of_length s (suc n)) k) listed.within;
      some = omega (arith, listed.long);
      short = omega (arith, listed.long);
    }))

pub all_heard_paths : (members : List ℕ) (me rounds : ℕ) → Distinct members → AllByRecursion (IsHeardPath members me rounds) (heard_paths members me rounds)
all_heard_paths members me rounds d = listed_up_to members me rounds (rounds + 1) d (omega arith)

map_where : {X Y : Type 0} (P : X → Type 0) (f g : X → Y) (xs : List X) → AllByRecursion P xs → ((x : X) → P x → f x ≡ g x) → AllByRecursion (λ x. f x ≡ g x) xs
map_where P f g [] a h = tt
map_where P f g (x ∷ xs) a h = (h x a.0, map_where P f g xs a.1 h)

-- two accounts of what was heard that agree on these paths are one list
pub entries_alike : {V : Type 0} (f g : List ℕ → Wrapped V) (members : List ℕ) (me rounds : ℕ) → Distinct members → ((path : List ℕ) → IsHeardPath members me rounds path → f path ≡ g path)
    → map (entry f) (heard_paths members me rounds) ≡ map (entry g) (heard_paths members me rounds)
entries_alike f g members me rounds d h =
    map_alike (entry f) (entry g) (heard_paths members me rounds)
    (map_where (IsHeardPath members me rounds) (entry f) (entry g) (heard_paths members me rounds) (all_heard_paths members me rounds d) (λ path p. ap (λ u. record { path = path; value = u }) (h path p)))

-- after a value was heard for one path
pub entries_with : {V : Type 0} (f g : List ℕ → Wrapped V) (members : List ℕ) (me rounds : ℕ) (path : List ℕ) (value : Wrapped V) → Distinct members
    → ((p : List ℕ) → IsHeardPath members me rounds p → g p ≡ (if same_nodes p path then value else f p))
    → map (entry g) (heard_paths members me rounds) ≡ map (with_heard path value) (map (entry f) (heard_paths members me rounds))
entries_with {V} f g members me rounds path value d h =
    map_alike (entry g) (λ p. with_heard path value (entry f p)) (heard_paths members me rounds)
    (map_where (IsHeardPath members me rounds) (entry g) (λ p. with_heard path value (entry f p)) (heard_paths members me rounds) (all_heard_paths members me rounds d) (λ p real. one p real))
    ∙ sym (map_map (entry f) (with_heard path value) (heard_paths members me rounds))
  where
    one : (p : List ℕ) → IsHeardPath members me rounds p → entry g p ≡ with_heard path value (entry f p)
    one p real = elim (cases_Bool (same_nodes p path)) [
      | inl y ↦ ap (λ (u : Wrapped V). record { path = p; value = u }) (h p real ∙ cond-true (same_nodes p path) value (f p) y) ∙ sym (cond-true (same_nodes p path) (record { path = p; value = value }) (entry f p) y)
      | inr n ↦ ap (λ (u : Wrapped V). record { path = p; value = u }) (h p real ∙ cond-false (same_nodes p path) value (f p) n) ∙ sym (cond-false (same_nodes p path) (record { path = p; value = value }) (entry f p) n)
    ]

-- ---- what is settled depends on what was heard for real paths alone

-- two nodes alike but for what they heard
abbrev pub heard_as : {V : Type 0} → Ear V → (List ℕ → Wrapped V) → Ear V
heard_as x h = record { rounds = x.rounds; members = x.members; me = x.me; full = x.full; heard = h }

-- paths that can grow by members outside them, other than the node itself
pub record Grows {V : Type 0} (x : Ear V) (P : List ℕ → Type 0) : Type 0 where
  pub next : (p : List ℕ) (q : ℕ) → P p → has_id x.members q ≡ true → has_id p q ≡ false → q ≢ x.me → length p ≤ x.rounds → P (p ++ q ∷ [])

term : {V : Type 0} → (V → V → Bool) → Ear V → ℕ → List ℕ → ℕ → Wrapped V
term eq x r p q = if q == x.me then own_term x p else settled_within eq x r (p ++ q ∷ [])

step : {V : Type 0} (eq : V → V → Bool) (x : Ear V) (r : ℕ) (p : List ℕ) → settled_within eq x (suc r) p ≡ unwrapped (majority eq (map (term eq x r p) (outside x.members p)))
unfolding settled_within term
step eq x r p = refl

end : {V : Type 0} (eq : V → V → Bool) (x : Ear V) (p : List ℕ) → settled_within eq x zero p ≡ x.heard p
unfolding settled_within
end eq x p = refl

term_me : {V : Type 0} (eq : V → V → Bool) (x : Ear V) (r : ℕ) (p : List ℕ) (q : ℕ) → (q == x.me) ≡ true → term eq x r p q ≡ own_term x p
unfolding term
term_me eq x r p q y = cond-true (q == x.me) (own_term x p) (settled_within eq x r (p ++ q ∷ [])) y

term_other : {V : Type 0} (eq : V → V → Bool) (x : Ear V) (r : ℕ) (p : List ℕ) (q : ℕ) → (q == x.me) ≡ false → term eq x r p q ≡ settled_within eq x r (p ++ q ∷ [])
unfolding term
term_other eq x r p q n = cond-false (q == x.me) (own_term x p) (settled_within eq x r (p ++ q ∷ [])) n

pub settled_alike : {V : Type 0} (eq : V → V → Bool) (x : Ear V) (h : List ℕ → Wrapped V) (P : List ℕ → Type 0) → Grows x P → ((p : List ℕ) → P p → x.heard p ≡ h p)
    → (r : ℕ) (p : List ℕ) → P p → r + length p ≤ x.rounds + 1 → settled_within eq x r p ≡ settled_within eq (heard_as x h) r p
settled_alike eq x h P grows same zero p real short = end eq x p ∙ same p real ∙ sym (end eq (heard_as x h) p)
settled_alike {V} eq x h P grows same (suc r) p real short =
    let y : Ear V = heard_as x h in
    step eq x r p
    ∙ ap (λ (ts : List (Wrapped V)). unwrapped (majority eq ts)) (map_alike (term eq x r p) (term eq y r p) (outside x.members p) (all_outside x.members p _ (λ q on off. elim (cases_Bool (q == x.me)) [
      | inl me ↦ term_me eq x r p q me ∙ ap (λ (u : Wrapped V). if x.full then wrapped u else Fault 0) (same p real) ∙ sym (term_me eq y r p q me)
      | inr other ↦
          let ne : q ≢ x.me = λ e. let t : (q == x.me) ≡ true = eq-eqb q x.me e in cc in
          term_other eq x r p q other
          ∙ settled_alike eq x h P grows same r (p ++ q ∷ []) (grows.next p q real on off ne (omega arith)) (omega (arith, length_push p q))
          ∙ sym (term_other eq y r p q other)
    ])))
    ∙ sym (step eq y r p)

IsHeardPath-push : {members : List ℕ} {me rounds : ℕ} {path : List ℕ} (q : ℕ) → IsHeardPath members me rounds path → has_id members q ≡ true → has_id path q ≡ false → q ≢ me → length path ≤ rounds
    → IsHeardPath members me rounds (path ++ q ∷ [])
IsHeardPath-push {members} {me} {rounds} {path} q h on off ne room = record {
  distinct = Distinct-push path q h.distinct off;
  within = λ x x-on. elim (or_cases (has_id path x) (q == x) (sym (has_push path q x) ∙ x-on)) [
    | inl before ↦ h.within x before
    | inr here ↦ ap (has_id members) (sym (eqb-true q x here)) ∙ on
  ];
  other = off_from path q me h.other ne;
  some = omega (arith, length_push path q);
  short = omega (arith, length_push path q);
}

-- what a node settles for another member, from any account of what it heard that is right for these paths
pub settled_as : {V : Type 0} (eq : V → V → Bool) (x : Ear V) (h : List ℕ → Wrapped V) → ((p : List ℕ) → IsHeardPath x.members x.me x.rounds p → x.heard p ≡ h p)
    → (p : List ℕ) → IsHeardPath x.members x.me x.rounds p → settled_at eq x p ≡ settled_at eq (heard_as x h) p
settled_as eq x h same p real =
    settled_alike eq x h (IsHeardPath x.members x.me x.rounds) (record { next = λ p q r on off ne room. IsHeardPath-push q r on off ne room }) same (x.rounds + 1 - length p) p real (let s = real.short in omega arith)

pub IsHeardPath-root : {members : List ℕ} {me : ℕ} (rounds c : ℕ) → has_id members c ≡ true → c ≢ me → IsHeardPath members me rounds (c ∷ [])
IsHeardPath-root {members} {me} rounds c on ne = record {
  distinct = (refl, tt);
  within = λ q h. elim (or_cases (c == q) false h) [
    | inl here ↦ ap (has_id members) (sym (eqb-true c q here)) ∙ on
    | inr none ↦ absurd (cc)
  ];
  other = ap (λ (b : Bool). b || false) (ne_eqb c me ne);
  some = omega arith;
  short = omega arith;
}
