-- What a member that isn't odd passes on of an item in its slots.
use Rattle.std.proofs.Common.{ℕ, suc, ◌≡◌, ◌≢◌, ◌<◌, ◌≤◌, ◌+◌, Bool, true, false, List, [], ◌∷◌, ◌++◌, ◌==◌, map, length, reverse, None, ◌⊎◌, refl, sym, ap, ◌∙◌, inl, inr, arith, eq-eqb, eqb-true}
use Rattle.std.proofs.lemmas.Bool.{cases_Bool, cond-true, cond-false, or_left, or_right, or_cases}
use Rattle.std.proofs.lemmas.List.{length-reverse, length_push, length-map}
use Rattle.node_grid.specs.NodeSet.{has_id, without_id}
use Rattle.node_grid.specs.Count.{Distinct}
use Rattle.node_grid.specs.ListLaws.{has_push}
use Rattle.node_grid.specs.ListFacts.{all_map}
use Rattle.node_grid.specs.SetFacts.{front_distinct, has-without}
use Rattle.omh_paths.specs.declared.wrapped.Wrapped.{Wrapped}
use Rattle.omh_paths.specs.Wrapped.{wrapped}
use Rattle.omh_paths.specs.Paths.{same_nodes, place_in, IsPath}
use Rattle.omh_paths.specs.PathLists.{same_nodes-tells, place-lt, length-paths, Distinct-without}
use Rattle.omh_paths.specs.PathLaws.{off_longer}
use Rattle.omh.specs.Omh.{World, ear, own_term}
use Rattle.frames.specs.Content.{IsEntry}
use Rattle.frames.specs.Spelling.{IsInRange}
use Rattle.protocol.specs.Arrival.{is_good}
use Rattle.protocol.specs.Arrival.Arrival.{Good}
use Rattle.protocol.specs.Heard.{paths_of, looked_up, with_entries, entry, heard}
use Rattle.protocol.specs.Talk.{Talk, arrives, relay_said, rounds_upto}
use Rattle.protocol.specs.TalkLaws.{paths_of_member, relay_at, heard_stable, heard_push}
use Rattle.protocol.specs.Facts.{good_entries, no_entry}
use Rattle.safety.proofs.Arrivals.{Grammar, arrives_clean, arrives_cold}
use Rattle.safety.proofs.Talks.{FormFits, entries_of, heard_in, wrap_heard}
use Rattle.odd_relays.specs.Chains.{IsPassedOn}
use Rattle.odd_talks.specs.Law.{SaysOwnTerms}

-- an entry for a path that has its place
looked_up_map : {V : Type 0} (f : List ℕ → Wrapped V) (paths : List (List ℕ)) (path : List ℕ) → place_in paths path < length paths → looked_up paths (map f paths) path ≡ f path
looked_up_map f [] path h = absurd (omega arith)
looked_up_map f (q ∷ qs) path h = elim (cases_Bool (same_nodes q path)) [
  | inl is ↦ cond-true (same_nodes q path) _ _ is ∙ ap f (same_nodes-tells q path is)
  | inr isnt ↦ cond-false (same_nodes q path) _ _ isnt ∙ looked_up_map f qs path (omega (arith, cond-false (same_nodes q path) 0 (1 + place_in qs path) isnt))
]

front_apart : (path : List ℕ) (q x : ℕ) → Distinct (path ++ q ∷ []) → has_id path x ≡ true → x ≢ q
front_apart [] q x d on e = cc
front_apart (y ∷ ys) q x d on e = elim (or_cases (y == x) (has_id ys x) on) [
  | inl here ↦ (off_longer ys q y d.0).1 (sym (eqb-true y x here ∙ e))
  | inr later ↦ front_apart ys q x d.1 later e
]

module _ (g : Grammar) {V : Type 0} (P : V → Type 0) (t : Talk V) (rounds : ℕ) (members : List ℕ) (c : ℕ) (odd : List ℕ) (is_awake : ℕ → Bool) (form : FormFits P t rounds)
    (distinct : Distinct members) (full : (q : ℕ) → has_id members q ≡ true → t.full q ≡ true → is_awake q ≡ true) (goes : (i : ℕ) → is_awake i ≡ true → t.members i ≡ members) where
  abbrev w : World V
  w = record { rounds = rounds; members = members; is_full = t.full; heard = λ i. heard (rounds_upto t rounds i) }

  entries_fit : (k j i : ℕ) → suc k ≤ rounds → IsInRange (t.expect (suc k) j (t.members i)) (t.form.relay (entries_of t (t.members i) k j))
  entries_fit k j i low =
      form.relay_sent (suc k) j i (entries_of t (t.members i) k j) (omega arith) low
      (length-map (paths_of (t.members i) (suc k) j) (λ path. wrapped (heard (rounds_upto t k j) path)))
      (all_map (IsEntry P (suc k)) (λ path. wrapped (heard (rounds_upto t k j) path)) (paths_of (t.members i) (suc k) j)
      (λ path. wrap_heard P k (heard (rounds_upto t k j) path) (heard_in t g P rounds form k j (reverse path) (omega arith))))

  -- an untouched relay frame of a Full member
  relay_full : (k j i : ℕ) → suc k ≤ rounds → has_id members j ≡ true → t.full j ≡ true → is_awake i ≡ true → t.change (suc k) j i ≡ None
      → (rounds_upto t rounds i).relay (suc k) j ≡ Good (looked_up (paths_of members (suc k) j) (entries_of t members k j))
  relay_full k j i low on f s clean =
      let mine = goes i s in
      let its = goes j (full j on f) in
      let sent : relay_said t (suc k) (rounds_upto t k j) j ≡ t.form.relay (entries_of t (t.members i) k j) =
      cond-true (t.full j) _ _ f ∙ ap (λ (ms : List ℕ). t.form.relay (entries_of t ms k j)) (its ∙ sym mine)
      in
      relay_at t rounds k i j (omega arith)
      ∙ ap (with_entries (paths_of (t.members i) (suc k) j))
      (ap (arrives t.form.relay_in (t.change (suc k) j i) (t.expect (suc k) j (t.members j)) (t.expect (suc k) j (t.members i))) sent
      ∙ arrives_clean g t.form.relay_in (t.change (suc k) j i) (t.expect (suc k) j (t.members j)) (t.expect (suc k) j (t.members i)) _ _
      clean (ap (t.expect (suc k) j) (its ∙ sym mine)) (entries_fit k j i low) (form.relay_back _))
      ∙ ap (λ (ms : List ℕ). Good (looked_up (paths_of ms (suc k) j) (entries_of t ms k j))) mine

  -- that of another one
  relay_idle : (k j i : ℕ) → suc k ≤ rounds → t.full j ≡ false → t.change (suc k) j i ≡ None → is_good ((rounds_upto t rounds i).relay (suc k) j) ≡ false
  relay_idle k j i low f clean =
      ap is_good (relay_at t rounds k i j (omega arith)) ∙ good_entries (paths_of (t.members i) (suc k) j) _
      ∙ ap is_good (arrives_cold g t.form.relay_in (t.change (suc k) j i) (t.expect (suc k) j (t.members j)) (t.expect (suc k) j (t.members i)) _
      clean (form.heads (suc k) j (t.members i) (t.members j)) (cond-false (t.full j) _ _ f))

  -- each path of other members has its place in the frame
  placed : (path : List ℕ) (q : ℕ) → IsPath members rounds (path ++ q ∷ []) → place_in (paths_of members (length path) q) path < length (paths_of members (length path) q)
  placed path q p =
      let on : has_id members q ≡ true = p.within q (has_push path q q ∙ or_right (has_id path q) _ (eq-eqb q q refl)) in
      let listed = paths_of_member members (length path) q on in
      let others = Distinct-without members q distinct in
      let low = place-lt (without_id members q) path others (front_distinct path q p.distinct)
      (λ x h. has-without members q x (front_apart path q x p.distinct h) (p.within x (has_push path q x ∙ or_left (has_id path x) (q == x) h)))
      in
      omega (arith, low, length-paths (without_id members q) (length path) others, ap length listed, ap (λ (ps : List (List ℕ)). place_in ps path) listed)

  -- an untouched frame says what its sender puts into its own majorities
  says_own : (path : List ℕ) (q i : ℕ) → 0 < length path → IsPath members rounds (path ++ q ∷ []) → is_awake i ≡ true → t.change (length path) q i ≡ None
      → entry ((rounds_upto t rounds i).relay (length path) q) path ≡ own_term (ear w q) path
  says_own [] q i some p s clean = absurd (omega arith)
  says_own (x ∷ xs) q i some p s clean =
      let k : ℕ = length xs in
      let low : suc k ≤ rounds = let short = p.short in omega (arith, length_push (x ∷ xs) q) in
      let on : has_id members q ≡ true = p.within q (has_push (x ∷ xs) q q ∙ or_right (has_id (x ∷ xs) q) _ (eq-eqb q q refl)) in
      elim (cases_Bool (t.full q)) [
        | inl f ↦
            ap (λ a. entry a (x ∷ xs)) (relay_full k q i low on f s clean)
            ∙ looked_up_map (λ path. wrapped (heard (rounds_upto t k q) path)) (paths_of members (suc k) q) (x ∷ xs) (placed (x ∷ xs) q p)
            ∙ ap wrapped (sym (heard_stable t k rounds q (reverse (x ∷ xs)) (omega (arith, length-reverse (x ∷ xs))) (omega arith)))
            ∙ sym (cond-true (t.full q) _ _ f)
        | inr n ↦ no_entry _ (x ∷ xs) (relay_idle k q i low n clean) ∙ sym (cond-false (t.full q) _ _ n)
      ]

  pub talk_passed : ((r j i : ℕ) → 0 < r → r ≤ rounds → has_id members j ≡ true → has_id odd j ≡ false → is_awake i ≡ true → j ≢ i → (t.change r j i ≡ None) ⊎ SaysOwnTerms w (rounds_upto t rounds) c r j i)
      → IsPassedOn w c odd is_awake
  talk_passed regular = record {
    distinct = distinct;
    full = full;
    relays = λ front q i p even s off.
        let path : List ℕ = c ∷ front in
        let low : length path ≤ rounds = let short = p.short in omega (arith, length_push path q) in
        let on : has_id members q ≡ true = p.within q (has_push path q q ∙ or_right (has_id path q) _ (eq-eqb q q refl)) in
        heard_push (rounds_upto t rounds i) path q (omega arith)
        ∙ elim (regular (length path) q i (omega arith) low on even s (off_longer path q i off).1) [
          | inl clean ↦ says_own path q i (omega arith) p s clean
          | inr says ↦ says front refl p off
        ];
  }
