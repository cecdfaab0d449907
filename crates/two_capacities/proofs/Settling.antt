-- What a node settles of items that are changed alike: the change of what it settled.
use Rattle.std.proofs.Common.{ℕ, zero, suc, ◌≡◌, ◌+◌, ◌-◌, ◌*◌, Bool, true, false, not, ◌&&◌, ◌||◌, ◌==◌, List, [], ◌∷◌, ◌++◌, map, length, reverse, replicate, None, refl, sym, ap, ◌∙◌}
use Rattle.std.proofs.Math.Path.{fun_ext}
use Rattle.std.specs.Prelude.{if◌then◌else◌, nat_lt}
use Rattle.std.specs.Option.{option_map}
use Rattle.node_grid.specs.NodeSet.{ids_below, has_id}
use Rattle.node_grid.specs.Count.{bit, count}
use Rattle.omh_paths.specs.declared.wrapped.Wrapped.{Wrapped}
use Rattle.omh_paths.specs.declared.wrapped.Wrapped.TheVariants.{Plain, Fault}
use Rattle.omh_paths.specs.Wrapped.{wrapped, unwrapped, same, is_error}
use Rattle.omh_paths.specs.Majority.{has_majority, first_majority, majority}
use Rattle.omh_paths.specs.Paths.{outside, same_nodes}
use Rattle.omh.specs.Omh.{own_term, settled_within, settled_at, settled_from}
use Rattle.equivocation.specs.Conviction.{is_present, disagrees, tolerated, is_convicted, relays_of, convicts}
use Rattle.protocol.specs.Arrival.{Arrival, is_bad, said}
use Rattle.protocol.specs.Arrival.Arrival.{Bad, Good}
use Rattle.protocol.specs.Heard.{looked_up, with_entries, entry, Rounds, heard_back, heard, rounds_bad}
use Rattle.protocol.specs.Settled.{ear_of, plain, settled_items}
use Rattle.std.specs.List.{list_any, range_with_len}
use Rattle.two_capacities.proofs.Lists.{map_twice, count_mapped, tab_padded}
use Rattle.two_capacities.proofs.Copies.{AreBelow}

-- ---- values in transit, arrivals and rounds of changed items

abbrev pub each_wrapped : {V W : Type 0} → (V → W) → Wrapped V → Wrapped W
each_wrapped f (Plain v) = Plain (f v)
each_wrapped f (Fault k) = Fault k

abbrev pub each_arrival : {V W : Type 0} → (V → W) → Arrival V → Arrival W
each_arrival f (Bad k) = Bad k
each_arrival f (Good v) = Good (f v)

-- what a relay frame says of each path
abbrev pub each_entry : {V W : Type 0} → (V → W) → (List ℕ → Wrapped V) → List ℕ → Wrapped W
each_entry f x path = each_wrapped f (x path)

abbrev pub each_round : {V W : Type 0} → (V → W) → Rounds V → Rounds W
each_round f x = record { first = λ j. each_arrival f (x.first j); relay = λ r j. each_arrival (each_entry f) (x.relay r j) }

module _ {V W : Type 0} (f : V → W) where
  pub wrapped_each : (w : Wrapped V) → wrapped (each_wrapped f w) ≡ each_wrapped f (wrapped w)
  wrapped_each (Plain v) = refl
  wrapped_each (Fault k) = refl

  unwrapped_each : (w : Wrapped V) → unwrapped (each_wrapped f w) ≡ each_wrapped f (unwrapped w)
  unwrapped_each (Plain v) = refl
  unwrapped_each (Fault k) = refl

  pub plain_each : (w : Wrapped V) → plain (each_wrapped f w) ≡ option_map f (plain w)
  plain_each (Plain v) = refl
  plain_each (Fault k) = refl

  pub bad_each : (a : Arrival V) (k : ℕ) → is_bad (each_arrival f a) k ≡ is_bad a k
  bad_each (Bad x) k = refl
  bad_each (Good v) k = refl

  bad_entry : (a : Arrival (List ℕ → Wrapped V)) (k : ℕ) → is_bad (each_arrival (each_entry f) a) k ≡ is_bad a k
  bad_entry (Bad x) k = refl
  bad_entry (Good v) k = refl

  said_each : (a : Arrival V) → said (each_arrival f a) ≡ each_wrapped f (said a)
  said_each (Bad k) = refl
  said_each (Good v) = refl

  entry_each : (a : Arrival (List ℕ → Wrapped V)) (path : List ℕ) → entry (each_arrival (each_entry f) a) path ≡ each_wrapped f (entry a path)
  entry_each (Bad k) path = refl
  entry_each (Good g) path = refl

  back_each : (x : Rounds V) (path : List ℕ) → heard_back (each_round f x) path ≡ each_wrapped f (heard_back x path)
  back_each x [] = refl
  back_each x (q ∷ []) = said_each (x.first q)
  back_each x (q ∷ c ∷ back) = entry_each (x.relay (length (c ∷ back)) q) (reverse (c ∷ back))

  pub heard_each : (x : Rounds V) (path : List ℕ) → heard (each_round f x) path ≡ each_wrapped f (heard x path)
  heard_each x path = back_each x (reverse path)

  pub rounds_each : (m : ℕ) (x : Rounds V) (j k : ℕ) → rounds_bad m (each_round f x) j k ≡ rounds_bad m x j k
  rounds_each m x j k =
      ap (λ b. b || list_any (λ r. is_bad (each_arrival (each_entry f) (x.relay r j)) k) (range_with_len 1 m)) (bad_each (x.first j) k)
      ∙ ap (λ (test : ℕ → Bool). is_bad (x.first j) k || list_any test (range_with_len 1 m)) (fun_ext (λ r. bad_entry (x.relay r j) k))

  looked_each : (paths : List (List ℕ)) (xs : List (Wrapped V)) (path : List ℕ) → looked_up paths (map (each_wrapped f) xs) path ≡ each_wrapped f (looked_up paths xs path)
  looked_each [] xs path = refl
  looked_each (q ∷ qs) [] path = refl
  looked_each (q ∷ qs) (x ∷ xs) path = either (same_nodes q path) (looked_each qs xs path) where
    either : (b : Bool) → looked_up qs (map (each_wrapped f) xs) path ≡ each_wrapped f (looked_up qs xs path)
        → (if b then each_wrapped f x else looked_up qs (map (each_wrapped f) xs) path) ≡ each_wrapped f (if b then x else looked_up qs xs path)
    either true e = refl
    either false e = e

  pub entries_each : (paths : List (List ℕ)) (a : Arrival (List (Wrapped V))) → with_entries paths (each_arrival (map (each_wrapped f)) a) ≡ each_arrival (each_entry f) (with_entries paths a)
  entries_each paths (Bad k) = refl
  entries_each paths (Good xs) = ap Good (fun_ext (looked_each paths xs))

  -- ---- majorities, by a test that tells changed items as it tells the items

  module _ (eq : V → V → Bool) (eq' : W → W → Bool) (alike : (x y : V) → eq' (f x) (f y) ≡ eq x y) where
    error_each : (x : Wrapped V) → is_error (each_wrapped f x) ≡ is_error x
    error_each (Plain v) = refl
    error_each (Fault k) = refl

    same_each : (x y : Wrapped V) → same eq' (each_wrapped f x) (each_wrapped f y) ≡ same eq x y
    same_each (Plain x) (Plain y) = alike x y
    same_each (Plain x) (Fault k) = refl
    same_each (Fault k) (Plain y) = refl
    same_each (Fault j) (Fault k) = refl

    has_each : (all : List (Wrapped V)) (x : Wrapped V) → has_majority eq' (map (each_wrapped f) all) (each_wrapped f x) ≡ has_majority eq all x
    has_each all x =
        ap (λ e. not e && nat_lt (count (λ y. not (is_error y)) (map (each_wrapped f) all)) (2 * count (same eq' (each_wrapped f x)) (map (each_wrapped f) all))) (error_each x)
        ∙ ap (λ n. not (is_error x) && nat_lt n (2 * count (same eq' (each_wrapped f x)) (map (each_wrapped f) all)))
        (count_mapped (λ y. not (is_error y)) (each_wrapped f) all ∙ ap (λ (test : Wrapped V → Bool). count test all) (fun_ext (λ y. ap not (error_each y))))
        ∙ ap (λ n. not (is_error x) && nat_lt (count (λ y. not (is_error y)) all) (2 * n))
        (count_mapped (same eq' (each_wrapped f x)) (each_wrapped f) all ∙ ap (λ (test : Wrapped V → Bool). count test all) (fun_ext (same_each x)))

    first_each : (all xs : List (Wrapped V)) → first_majority eq' (map (each_wrapped f) all) (map (each_wrapped f) xs) ≡ each_wrapped f (first_majority eq all xs)
    first_each all [] = refl
    first_each all (x ∷ xs) =
        ap (λ b. if b then each_wrapped f x else first_majority eq' (map (each_wrapped f) all) (map (each_wrapped f) xs)) (has_each all x)
        ∙ either (has_majority eq all x) (first_each all xs)
      where
        either : (b : Bool) → first_majority eq' (map (each_wrapped f) all) (map (each_wrapped f) xs) ≡ each_wrapped f (first_majority eq all xs)
            → (if b then each_wrapped f x else first_majority eq' (map (each_wrapped f) all) (map (each_wrapped f) xs)) ≡ each_wrapped f (if b then x else first_majority eq all xs)
        either true e = refl
        either false e = e

    majority_each : (all : List (Wrapped V)) → majority eq' (map (each_wrapped f) all) ≡ each_wrapped f (majority eq all)
    unfolding majority
    majority_each all = first_each all all

    -- ---- whom a node convicts

    present_each : (x : Wrapped V) → is_present (each_wrapped f x) ≡ is_present x
    present_each x = ap not (error_each x)

    disagrees_each : (own x : Wrapped V) → disagrees eq' (each_wrapped f own) (each_wrapped f x) ≡ disagrees eq own x
    disagrees_each own x =
        ap (λ b. b && not (same eq' (each_wrapped f x) (wrapped (each_wrapped f own)))) (present_each x)
        ∙ ap (λ w. is_present x && not (same eq' (each_wrapped f x) w)) (wrapped_each own)
        ∙ ap (λ b. is_present x && not b) (same_each x (wrapped own))

    convicted_each : (own : Wrapped V) (relays : List (Wrapped V)) (counted : Bool) (m : ℕ) → is_convicted eq' (each_wrapped f own) (map (each_wrapped f) relays) counted m ≡ is_convicted eq own relays counted m
    convicted_each own relays counted m =
        ap (λ n. nat_lt 0 m && nat_lt (tolerated (n + bit counted) m) (count (disagrees eq' (each_wrapped f own)) (map (each_wrapped f) relays)))
        (count_mapped is_present (each_wrapped f) relays ∙ ap (λ (test : Wrapped V → Bool). count test relays) (fun_ext present_each))
        ∙ ap (λ n. nat_lt 0 m && nat_lt (tolerated (count is_present relays + bit counted) m) n)
        (count_mapped (disagrees eq' (each_wrapped f own)) (each_wrapped f) relays ∙ ap (λ (test : Wrapped V → Bool). count test relays) (fun_ext (disagrees_each own)))

    pub convicts_each : (m i : ℕ) (full : Bool) (members : List ℕ) (x : Rounds V) (c : ℕ) → convicts eq' (ear_of m i full members (each_round f x)) c ≡ convicts eq (ear_of m i full members x) c
    convicts_each m i full members x c =
        ap (λ w. is_convicted eq' w (relays_of (ear_of m i full members (each_round f x)) c) (full && has_id members i) m) (heard_each x (c ∷ []))
        ∙ ap (λ ws. is_convicted eq' (each_wrapped f (heard x (c ∷ []))) ws (full && has_id members i) m)
        (ap (λ (h : ℕ → Wrapped W). map h (outside members (c ∷ i ∷ []))) (fun_ext (λ q. heard_each x (c ∷ q ∷ [])))
        ∙ sym (map_twice (each_wrapped f) (λ q. heard x (c ∷ q ∷ [])) (outside members (c ∷ i ∷ []))))
        ∙ convicted_each (heard x (c ∷ [])) (relays_of (ear_of m i full members x) c) (full && has_id members i) m

    -- ---- what a node settles

    module _ (m i : ℕ) (full : Bool) (members : List ℕ) (x : Rounds V) where
      own_each : (path : List ℕ) → own_term (ear_of m i full members (each_round f x)) path ≡ each_wrapped f (own_term (ear_of m i full members x) path)
      own_each path = ap (λ w. if full then wrapped w else Fault 0) (heard_each x path) ∙ by full where
        by : (b : Bool) → (if b then wrapped (each_wrapped f (heard x path)) else Fault 0) ≡ each_wrapped f (if b then wrapped (heard x path) else Fault 0)
        by true = wrapped_each (heard x path)
        by false = refl

      within_each : (r : ℕ) (path : List ℕ) → settled_within eq' (ear_of m i full members (each_round f x)) r path ≡ each_wrapped f (settled_within eq (ear_of m i full members x) r path)
      unfolding settled_within
      within_each zero path = heard_each x path
      within_each (suc r) path =
          ap (λ (h : ℕ → Wrapped W). unwrapped (majority eq' (map h (outside members path))))
          (fun_ext (λ q. either (q == i) _ _ (own_each path) (within_each r (path ++ q ∷ []))))
          ∙ ap (λ xs. unwrapped (majority eq' xs)) (sym (map_twice (each_wrapped f) (λ q. if q == i then own_term (ear_of m i full members x) path else settled_within eq (ear_of m i full members x) r (path ++ q ∷ [])) (outside members path)))
          ∙ ap unwrapped (majority_each (map (λ q. if q == i then own_term (ear_of m i full members x) path else settled_within eq (ear_of m i full members x) r (path ++ q ∷ [])) (outside members path)))
          ∙ unwrapped_each _
        where
          either : (b : Bool) (a a' : Wrapped V) {w w' : Wrapped W} → w ≡ each_wrapped f a → w' ≡ each_wrapped f a' → (if b then w else w') ≡ each_wrapped f (if b then a else a')
          either true a a' e e' = e
          either false a a' e e' = e'

      from_each : (v : V) (c : ℕ) → settled_from eq' (ear_of m i full members (each_round f x)) (Plain (f v)) c ≡ each_wrapped f (settled_from eq (ear_of m i full members x) (Plain v) c)
      from_each v c = by (c == i) full where
        by : (b full' : Bool) → (if b then (if full' then Plain (f v) else Fault 0) else settled_at eq' (ear_of m i full members (each_round f x)) (c ∷ []))
            ≡ each_wrapped f (if b then (if full' then Plain v else Fault 0) else settled_at eq (ear_of m i full members x) (c ∷ []))
        by true true = refl
        by true false = refl
        by false full' = within_each (m + 1 - 1) (c ∷ [])

      -- ---- the settled items of a larger capacity

      pub items_each : (c k : ℕ) (v : V) → AreBelow c members
          → settled_items eq' (c + k) m i full members (each_round f x) (f v) ≡ map (option_map f) (settled_items eq c m i full members x v) ++ replicate k None
      items_each c k v below =
          tab_padded (λ q. option_map f (if has_id members q then plain (settled_from eq (ear_of m i full members x) (Plain v) q) else None))
          (λ q. if has_id members q then plain (settled_from eq' (ear_of m i full members (each_round f x)) (Plain (f v)) q) else None) None c k
          (λ q l. ap (λ w. if has_id members q then plain w else None) (from_each v q) ∙ by (has_id members q) (settled_from eq (ear_of m i full members x) (Plain v) q))
          (λ q l. ap (λ b. if b then plain (settled_from eq' (ear_of m i full members (each_round f x)) (Plain (f v)) q) else None) (below q l))
          ∙ ap (λ xs. xs ++ replicate k None) (sym (map_twice (option_map f) (λ q. if has_id members q then plain (settled_from eq (ear_of m i full members x) (Plain v) q) else None) (ids_below c)))
        where
          by : (b : Bool) (w : Wrapped V) → (if b then plain (each_wrapped f w) else None) ≡ option_map f (if b then plain w else None)
          by true w = plain_each w
          by false w = refl
