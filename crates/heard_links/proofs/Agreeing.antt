-- Two talks that agree on the nodes in use and on the rounds that there are have the same rounds there.
use Rattle.std.proofs.Common.{ℕ, zero, suc, ◌≡◌, ◌<◌, ◌≤◌, ◌==◌, Bool, true, false, List, [], ◌∷◌, ◌++◌, map, length, reverse, Option, refl, sym, ap, ap₂, ◌∙◌, inl, inr, arith, eqb-true, eq-eqb}
use Rattle.std.specs.Prelude.{if◌then◌else◌}
use Rattle.std.specs.List.{flat_map, filter}
use Rattle.std.proofs.lemmas.Bool.{cases_Bool, cond-true, cond-false, or_left, or_right, or_cases}
use Rattle.std.proofs.lemmas.List.{reverse-append}
use Rattle.node_grid.specs.NodeSet.{has_id}
use Rattle.node_grid.specs.ListLaws.{has_push}
use Rattle.omh_paths.specs.declared.wrapped.Wrapped.{Wrapped}
use Rattle.omh_paths.specs.Wrapped.{wrapped}
use Rattle.omh_paths.specs.Paths.{outside, paths_avoiding}
use Rattle.frames.specs.Content.{Content, Expectation}
use Rattle.frames.specs.Content.Content.{Cold}
use Rattle.fault_classes.specs.Change.{Change}
use Rattle.protocol.specs.Arrival.{Arrival, ItemForm, said}
use Rattle.protocol.specs.Heard.{Rounds, paths_of, with_entries, entry, heard_back, heard}
use Rattle.protocol.specs.Talk.{Talk, arrives, item_said, told_first, relay_said, told_relay, rounds_upto}
use Rattle.protocol.specs.TalkLaws.{first_at}

pub record Agree {V : Type 0} (nodes m : ℕ) (t u : Talk V) : Type 0 where
  pub form : t.form ≡ u.form
  pub change : (r j i : ℕ) → r ≤ m → t.change r j i ≡ u.change r j i
  pub expect : (r j : ℕ) (ms : List ℕ) → r ≤ m → t.expect r j ms ≡ u.expect r j ms
  pub members : (i : ℕ) → i < nodes → t.members i ≡ u.members i
  pub full : (i : ℕ) → i < nodes → t.full i ≡ u.full i
  pub item : (i : ℕ) → i < nodes → t.full i ≡ true → t.item i ≡ u.item i

-- all nodes of a path are in use
abbrev pub AreLow : ℕ → List ℕ → Type 0
AreLow n path = (q : ℕ) → has_id path q ≡ true → q < n

-- and those of all paths
abbrev pub AllLow : ℕ → List (List ℕ) → Type 0
AllLow n [] = Unit {0}
AllLow n (p ∷ ps) = AreLow n p × AllLow n ps

pub map_low : {Y : Type 0} (f g : List ℕ → Y) (n : ℕ) (ps : List (List ℕ)) → AllLow n ps → ((p : List ℕ) → AreLow n p → f p ≡ g p) → map f ps ≡ map g ps
map_low f g n [] low same = refl
map_low f g n (p ∷ ps) low same = ap₂ ◌∷◌ (same p low.0) (map_low f g n ps low.1 same)

low_append : (n : ℕ) (xs ys : List (List ℕ)) → AllLow n xs → AllLow n ys → AllLow n (xs ++ ys)
low_append n [] ys a b = b
low_append n (x ∷ xs) ys a b = (a.0, low_append n xs ys a.1 b)

low_path : (n q : ℕ) (p : List ℕ) → q < n → AreLow n p → AreLow n (q ∷ p)
low_path n q p low a x h = elim (or_cases (q == x) (has_id p x) h) [
  | inl here ↦ let e : q ≡ x = eqb-true q x here in omega arith
  | inr later ↦ a x later
]

low_cons : (n q : ℕ) (ps : List (List ℕ)) → q < n → AllLow n ps → AllLow n (map (λ path. q ∷ path) ps)
low_cons n q [] low a = tt
low_cons n q (p ∷ ps) low a = (low_path n q p low a.0, low_cons n q ps low a.1)

low_each : (n : ℕ) (f : ℕ → List (List ℕ)) (xs : List ℕ) → AreLow n xs → ((q : ℕ) → q < n → AllLow n (f q)) → AllLow n (flat_map f xs)
low_each n f [] low h = tt
low_each n f (x ∷ xs) low h =
    low_append n (f x) (flat_map f xs) (h x (low x (or_left (x == x) (has_id xs x) (eq-eqb x x refl)))) (low_each n f xs (λ q on. low q (or_right (x == q) _ on)) h)

low_filter : (n : ℕ) (f : ℕ → Bool) (xs : List ℕ) → AreLow n xs → AreLow n (filter f xs)
low_filter n f [] low q h = cc
low_filter n f (x ∷ xs) low q h = elim (cases_Bool (f x)) [
  | inl keeps ↦ elim (or_cases (x == q) (has_id (filter f xs) q) (sym (ap (λ (ys : List ℕ). has_id ys q) (cond-true (f x) (x ∷ filter f xs) (filter f xs) keeps)) ∙ h)) [
    | inl here ↦ low q (or_left (x == q) (has_id xs q) here)
    | inr later ↦ low_filter n f xs (λ q on. low q (or_right (x == q) _ on)) q later
  ]
  | inr drops ↦ low_filter n f xs (λ q on. low q (or_right (x == q) _ on)) q (sym (ap (λ (ys : List ℕ). has_id ys q) (cond-false (f x) (x ∷ filter f xs) (filter f xs) drops)) ∙ h)
]

low_avoiding : (n : ℕ) (members avoid : List ℕ) (r : ℕ) → AreLow n members → AllLow n (paths_avoiding members avoid r)
low_avoiding n members avoid zero low = ((λ q h. let z : false ≡ true = h in cc), tt)
low_avoiding n members avoid (suc r) low =
    low_each n (λ q. map (λ path. q ∷ path) (paths_avoiding members (q ∷ avoid) r)) (outside members avoid) (low_filter n _ members low)
    (λ q below. low_cons n q (paths_avoiding members (q ∷ avoid) r) below (low_avoiding n members (q ∷ avoid) r low))

pub low_paths : (n : ℕ) (members : List ℕ) (r j : ℕ) → AreLow n members → AllLow n (paths_of members r j)
low_paths n members r j low = go (has_id members j) where
  go : (b : Bool) → AllLow n (if b then paths_avoiding members (j ∷ []) r else [])
  go true = low_avoiding n members (j ∷ []) r low
  go false = tt

-- a path given from its last node back
low_back : (n : ℕ) (path : List ℕ) → AreLow n path → AreLow n (reverse path)
low_back n [] low q h = low q h
low_back n (x ∷ xs) low q h =
    elim (or_cases (has_id (reverse xs) q) (x == q) (sym (has_push (reverse xs) x q) ∙ ap (λ (ys : List ℕ). has_id ys q) (sym (reverse-append (x ∷ []) xs)) ∙ h)) [
      | inl before ↦ low_back n xs (λ q on. low q (or_right (x == q) _ on)) q before
      | inr here ↦ low q (or_left (x == q) _ here)
    ]

if_alike : {C : Type 0} (b c : Bool) (x y z : C) → b ≡ c → (b ≡ true → x ≡ y) → (if b then x else z) ≡ (if c then y else z)
if_alike true true x y z e same = same refl
if_alike false false x y z e same = refl
if_alike true false x y z e same = cc
if_alike false true x y z e same = cc

module _ {V : Type 0} (nodes m : ℕ) (t u : Talk V) (a : Agree nodes m t u) (low : (i : ℕ) → i < nodes → AreLow nodes (t.members i)) where
  arrives_alike : {C : Type 0} (part other : Content → Option C) (r j i : ℕ) (c d : Content) → part ≡ other → r ≤ m → j < nodes → i < nodes → c ≡ d
      → arrives part (t.change r j i) (t.expect r j (t.members j)) (t.expect r j (t.members i)) c
      ≡ arrives other (u.change r j i) (u.expect r j (u.members j)) (u.expect r j (u.members i)) d
  arrives_alike {C} part other r j i c d parts few low_j low_i same =
      ap₂ (λ (p : Content → Option C) (l : Option Change). arrives p l (t.expect r j (t.members j)) (t.expect r j (t.members i)) c) parts (a.change r j i few)
      ∙ ap₂ (λ (s e : Expectation). arrives other (u.change r j i) s e c)
      (a.expect r j (t.members j) few ∙ ap (u.expect r j) (a.members j low_j)) (a.expect r j (t.members i) few ∙ ap (u.expect r j) (a.members i low_i))
      ∙ ap (λ (x : Content). arrives other (u.change r j i) (u.expect r j (u.members j)) (u.expect r j (u.members i)) x) same

  first_same : (i j : ℕ) → i < nodes → j < nodes → told_first t i j ≡ told_first u i j
  first_same i j low_i low_j =
      arrives_alike t.form.item_in u.form.item_in 0 j i (item_said t j) (item_said u j) (ap (λ (f : ItemForm V). f.item_in) a.form) (omega arith) low_j low_i
      (if_alike (t.full j) (u.full j) (t.form.item (t.item j)) (u.form.item (u.item j)) Cold (a.full j low_j)
      (λ f. ap₂ (λ (f : ItemForm V) (v : V). f.item v) a.form (a.item j low_j f)))

  -- what is heard in rounds that agree
  back_same : (x y : Rounds V) (back : List ℕ) → ((j : ℕ) → j < nodes → x.first j ≡ y.first j) → ((k j : ℕ) → j < nodes → x.relay k j ≡ y.relay k j) → AreLow nodes back
      → heard_back x back ≡ heard_back y back
  back_same x y [] firsts relays on = refl
  back_same x y (q ∷ []) firsts relays on = ap said (firsts q (on q (or_left (q == q) false (eq-eqb q q refl))))
  back_same x y (q ∷ c ∷ back) firsts relays on = ap (λ f. entry f (reverse (c ∷ back))) (relays (length (c ∷ back)) q (on q (or_left (q == q) (has_id (c ∷ back) q) (eq-eqb q q refl))))

  firsts_same : (r i j : ℕ) → i < nodes → j < nodes → (rounds_upto t r i).first j ≡ (rounds_upto u r i).first j
  firsts_same r i j low_i low_j =
      ap (λ (f : ℕ → Arrival V). f j) (first_at t r i) ∙ first_same i j low_i low_j ∙ ap (λ (f : ℕ → Arrival V). f j) (sym (first_at u r i))

  relay_same : (r i j : ℕ) (x y : Rounds V) → r ≤ m → i < nodes → j < nodes → ((q : ℕ) → q < nodes → x.first q ≡ y.first q) → ((k q : ℕ) → q < nodes → x.relay k q ≡ y.relay k q)
      → told_relay t r i j x ≡ told_relay u r i j y
  relay_same r i j x y few low_i low_j firsts relays =
      ap₂ with_entries (ap (λ (ms : List ℕ). paths_of ms r j) (a.members i low_i))
      (arrives_alike t.form.relay_in u.form.relay_in r j i (relay_said t r x j) (relay_said u r y j) (ap (λ (f : ItemForm V). f.relay_in) a.form) few low_j low_i
      (if_alike (t.full j) (u.full j) _ _ Cold (a.full j low_j) (λ f.
      ap₂ (λ (f : ItemForm V) (es : List (Wrapped V)). f.relay es) a.form
      (map_low (λ path. wrapped (heard x path)) (λ path. wrapped (heard y path)) nodes (paths_of (t.members j) r j) (low_paths nodes (t.members j) r j (low j low_j))
      (λ path on. ap wrapped (back_same x y (reverse path) firsts relays (low_back nodes path on)))
      ∙ ap (λ (ms : List ℕ). map (λ path. wrapped (heard y path)) (paths_of ms r j)) (a.members j low_j)))))

  pub relays_same : (r k i j : ℕ) → r ≤ m → i < nodes → j < nodes → (rounds_upto t r i).relay k j ≡ (rounds_upto u r i).relay k j
  unfolding rounds_upto
  relays_same zero k i j few low_i low_j = refl
  relays_same (suc r) k i j few low_i low_j = elim (cases_Bool (k == suc r)) [
    | inl here ↦
        let e : k ≡ suc r = eqb-true k (suc r) here in
        cond-true (k == suc r) _ _ here
        ∙ relay_same k i j (rounds_upto t r j) (rounds_upto u r j) (omega arith) low_i low_j (λ q on. firsts_same r j q low_j on) (λ n q on. relays_same r n j q (omega arith) low_j on)
        ∙ sym (cond-true (k == suc r) _ _ here)
    | inr later ↦ cond-false (k == suc r) _ _ later ∙ relays_same r k i j (omega arith) low_i low_j ∙ sym (cond-false (k == suc r) _ _ later)
  ]

  pub first_rounds : (r i j : ℕ) → i < nodes → j < nodes → (rounds_upto t r i).first j ≡ (rounds_upto u r i).first j
  first_rounds = firsts_same

  pub heard_same : (r i : ℕ) (path : List ℕ) → r ≤ m → i < nodes → AreLow nodes path → heard (rounds_upto t r i) path ≡ heard (rounds_upto u r i) path
  heard_same r i path few low_i on =
      back_same (rounds_upto t r i) (rounds_upto u r i) (reverse path) (λ j h. firsts_same r i j low_i h) (λ k j h. relays_same r k i j few low_i h) (low_back nodes path on)
