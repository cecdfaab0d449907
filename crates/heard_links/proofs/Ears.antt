-- What nodes hear in place of what is passed on.
use Rattle.std.proofs.Common.{ℕ, suc, ◌≡◌, ◌≢◌, ◌≤◌, ◌+◌, ◌-◌, ◌==◌, ◌&&◌, ◌||◌, Bool, true, false, not, List, [], ◌∷◌, ◌++◌, length, Option, None, Some, refl, sym, ap, ap₂, ◌∙◌, inl, inr, arith, eqb-true, eq-eqb, ne_eqb, slice_index_or}
use Rattle.std.specs.Prelude.{if◌then◌else◌, is_none, nat_le}
use Rattle.std.specs.List.{list_all}
use Rattle.std.specs.Cmp.Lexicographic.{pointwise}
use Rattle.std.proofs.lemmas.Bool.{cond-true, cond-false, and_parts, and_from, or_left, or_right, or_cases, both_ways}
use Rattle.std.proofs.lemmas.List.{length_push}
use Rattle.node_grid.specs.NodeSet.{has_id}
use Rattle.node_grid.specs.NumberFacts.{le_from, le_yes}
use Rattle.omh_paths.specs.declared.wrapped.Wrapped.{Wrapped}
use Rattle.omh.specs.Written.{last_node}
use Rattle.fault_classes.specs.Change.{Change}
use Rattle.omh.specs.Facts.{last_push}
use Rattle.protocol.specs.Arrival.{Arrival, said}
use Rattle.protocol.specs.Heard.{paths_of, with_entries, entry, heard}
use Rattle.protocol.specs.Talk.{Talk, arrives, item_said, relay_said, rounds_upto}
use Rattle.protocol.specs.TalkLaws.{first_at, relay_at, heard_push}
use Rattle.heard_links.specs.Hearing.{is_even, is_asked, says_in}

at_push : (path : List ℕ) (q : ℕ) → slice_index_or (path ++ q ∷ []) (length path) 0 ≡ q
at_push [] q = refl
at_push (x ∷ xs) q = at_push xs q

pub all_within : (members path : List ℕ) → ((q : ℕ) → has_id path q ≡ true → has_id members q ≡ true) → list_all (has_id members) path ≡ true
all_within members [] h = refl
all_within members (x ∷ xs) h = and_from _ _ (h x (or_left (x == x) _ (eq-eqb x x refl))) (all_within members xs (λ q on. h q (or_right (x == q) _ on)))

pub within_all : (members path : List ℕ) → list_all (has_id members) path ≡ true → (q : ℕ) → has_id path q ≡ true → has_id members q ≡ true
within_all members [] h q on = cc
within_all members (x ∷ xs) h q on =
    let p = and_parts (has_id members x) (list_all (has_id members) xs) h in
    elim (or_cases (x == q) (has_id xs q) on) [
      | inl here ↦ ap (has_id members) (sym (eqb-true x q here)) ∙ p.0
      | inr later ↦ within_all members xs p.1 q later
    ]

module _ {V : Type 0} (t : Talk V) (m : ℕ) (awake : List ℕ) where
  -- nothing is said of an even link
  pub says_even : (i q : ℕ) (path : List ℕ) → is_even t (length path) q i ≡ true → says_in t m awake i (path ++ q ∷ []) ≡ None
  says_even i q path even =
      cond-false (is_asked t m awake i (path ++ q ∷ []) && not (is_even t (length (path ++ q ∷ []) - 1) (last_node (path ++ q ∷ [])) i)) _ None
      (ap₂ (λ (n l : ℕ). is_asked t m awake i (path ++ q ∷ []) && not (is_even t n l i)) (omega (arith, length_push path q)) (last_push path q)
      ∙ ap (λ (b : Bool). is_asked t m awake i (path ++ q ∷ []) && not b) even ∙ and_none (is_asked t m awake i (path ++ q ∷ []))) where
        and_none : (b : Bool) → (b && not true) ≡ false
        and_none true = refl
        and_none false = refl

  -- and of an uneven one what is heard
  pub says_heard : (i q : ℕ) (path : List ℕ) → is_even t (length path) q i ≡ false → is_asked t m awake i (path ++ q ∷ []) ≡ true
      → says_in t m awake i (path ++ q ∷ []) ≡ Some (heard (rounds_upto t m i) (path ++ q ∷ []))
  says_heard i q path uneven asked =
      cond-true (is_asked t m awake i (path ++ q ∷ []) && not (is_even t (length (path ++ q ∷ []) - 1) (last_node (path ++ q ∷ [])) i)) _ None
      (and_from _ _ asked (ap not (ap₂ (λ (n l : ℕ). is_even t n l i) (omega (arith, length_push path q)) (last_push path q) ∙ uneven)))

  pub asked_if : (i q : ℕ) (path : List ℕ) → has_id awake i ≡ true → ((x : ℕ) → has_id (path ++ q ∷ []) x ≡ true → has_id (t.members i) x ≡ true) → length path ≤ m → i ≢ q
      → is_asked t m awake i (path ++ q ∷ []) ≡ true
  asked_if i q path on within short other =
      and_from _ _ on (and_from _ _ (all_within (t.members i) (path ++ q ∷ []) within)
      (and_from _ _ (le_yes (length (path ++ q ∷ [])) (m + 1) (omega (arith, length_push path q)))
      (ap not (ap (λ (l : ℕ). i == l) (last_push path q) ∙ ne_eqb i q other))))

  -- what is asked for
  pub record AskedParts (i : ℕ) (path : List ℕ) : Type 0 where
    pub on : has_id awake i ≡ true
    pub within : (q : ℕ) → has_id path q ≡ true → has_id (t.members i) q ≡ true
    pub short : length path ≤ m + 1
    pub other : i ≢ last_node path

  pub asked_parts : (i : ℕ) (path : List ℕ) → is_asked t m awake i path ≡ true → AskedParts i path
  asked_parts i path h =
      let a = and_parts (has_id awake i) _ h in
      let b = and_parts (list_all (has_id (t.members i)) path) _ a.1 in
      let c = and_parts (nat_le (length path) (m + 1)) _ b.1 in
      record { on = a.0; within = within_all (t.members i) path b.0; short = le_from (length path) (m + 1) c.0; other = λ e. both_ways _ (not_is (i == last_node path) c.1) (eq-eqb i (last_node path) e) } where
        not_is : (b : Bool) → not b ≡ true → b ≡ false
        not_is true h = cc
        not_is false h = refl

  -- frames that the same befalls are the same to nodes with the same members
  heard_alike : (i j q : ℕ) (path : List ℕ) → length path ≤ m → t.change (length path) q i ≡ t.change (length path) q j → t.members i ≡ t.members j
      → heard (rounds_upto t m i) (path ++ q ∷ []) ≡ heard (rounds_upto t m j) (path ++ q ∷ [])
  heard_alike i j q [] short change same =
      ap (λ (a : Arrival V). said a)
      (ap (λ (f : ℕ → Arrival V). f q) (first_at t m i)
      ∙ ap₂ (λ (l : Option Change) (ms : List ℕ). arrives t.form.item_in l (t.expect 0 q (t.members q)) (t.expect 0 q ms) (item_said t q)) change same
      ∙ sym (ap (λ (f : ℕ → Arrival V). f q) (first_at t m j)))
  heard_alike i j q (c ∷ cs) short change same =
      heard_push (rounds_upto t m i) (c ∷ cs) q (omega arith)
      ∙ ap (λ a. entry a (c ∷ cs))
      (relay_at t m (length cs) i q (omega arith)
      ∙ ap₂ (λ (l : Option Change) (ms : List ℕ). with_entries (paths_of ms (suc (length cs)) q) (arrives t.form.relay_in l (t.expect (suc (length cs)) q (t.members q)) (t.expect (suc (length cs)) q ms) (relay_said t (suc (length cs)) (rounds_upto t (length cs) q) q))) change same
      ∙ sym (relay_at t m (length cs) j q (omega arith)))
      ∙ sym (heard_push (rounds_upto t m j) (c ∷ cs) q (omega arith))

  -- what is said of them is so too
  pub says_alike : (i j q : ℕ) (path : List ℕ) → length path ≤ m → has_id awake i ≡ true → has_id awake j ≡ true → t.members i ≡ t.members j → i ≢ q → j ≢ q
      → t.change (length path) q i ≡ t.change (length path) q j → says_in t m awake i (path ++ q ∷ []) ≡ says_in t m awake j (path ++ q ∷ [])
  says_alike i j q path short on_i on_j same ne_i ne_j change =
      ap₂ (λ (b : Bool) (w : Wrapped V). if b then Some w else None)
      (ap₂ (λ (a b : Bool). a && not b)
      (ap₂ (λ (a b : Bool). a && b) (on_i ∙ sym on_j)
      (ap₂ (λ (ms : List ℕ) (b : Bool). list_all (has_id ms) (path ++ q ∷ []) && (nat_le (length (path ++ q ∷ [])) (m + 1) && not b)) same
      (ap (λ (l : ℕ). i == l) (last_push path q) ∙ ne_eqb i q ne_i ∙ sym (ap (λ (l : ℕ). j == l) (last_push path q) ∙ ne_eqb j q ne_j))))
      (ap₂ (λ (n l : ℕ). is_even t n l i) (omega (arith, length_push path q)) (last_push path q)
      ∙ ap₂ (λ (l : Option Change) (ms : List ℕ). is_none l && ((length path == 0) || (not (t.full q) || pointwise ◌==◌ (t.members q) ms))) change same
      ∙ sym (ap₂ (λ (n l : ℕ). is_even t n l j) (omega (arith, length_push path q)) (last_push path q))))
      (heard_alike i j q path short change same)
