-- What stands in the table of a frame, and what was heard of it.
use Rattle.std.proofs.Common.{ℕ, suc, ◌≡◌, ◌≢◌, ◌<◌, ◌≤◌, true, List, [], ◌∷◌, ◌++◌, length, None, Some, refl, sym, ap, subst, ◌∙◌, arith, slice_index_or}
use Rattle.std.specs.Prelude.{if◌then◌else◌}
use Rattle.node_grid.specs.NodeSet.{has_id}
use Rattle.omh_paths.specs.declared.wrapped.Wrapped.{Wrapped}
use Rattle.omh_paths.specs.declared.wrapped.Wrapped.TheVariants.{Plain, Fault}
use Rattle.omh_paths.specs.Paths.{place_in}
use Rattle.protocol.specs.Arrival.{ItemForm, said}
use Rattle.protocol.specs.Arrival.Arrival.{Good}
use Rattle.protocol.specs.Heard.{paths_of, heard}
use Rattle.frames.specs.Content.{Content}
use Rattle.protocol.specs.Talk.{arrives, rounds_upto}
use Rattle.protocol.specs.Run.{System}
use Rattle.protocol.specs.Accepted.{IsAccepted}
use Rattle.safety.proofs.Talks.{FormFits}
use Rattle.touched_items.specs.Items.{talk_of, EntryForm, AreEntries, Sizes, sizes_in, HasOwn, bad_kind}
use Rattle.heard_links.specs.declared.came.Came.{Came}
use Rattle.heard_links.specs.declared.came.Came.TheVariants as came
use Rattle.heard_links.specs.declared.links.Links.{Links}
use Rattle.heard_links.specs.declared.phase.Phase.{Phase}
use Rattle.heard_links.specs.Hearing.{frame_kind, IsCame, item_of, came_at, talk_in, IsHeard, source, passed_on}
use Rattle.heard_links.proofs.Runs.{even_kind, heard_even, heard_relay_even, heard_relay_good, heard_first_bad, heard_relay_bad, content_of, come, has_own}

module _ {V : Type 0} {N : ℕ} (form : ItemForm V) (first : ℕ → ℕ) (tells : System → ℕ → ℕ → V) (cells : EntryForm V) (in_range : Sizes → V → Type 0) (made : AreEntries form cells in_range)
    (fits : (sys : System) → IsAccepted sys → (p : ℕ) → FormFits (in_range (sizes_in sys)) (talk_of form first tells sys p) sys.setting.config.m)
    (x : Phase N) (links : Links V N) (upto : ℕ) (h : IsHeard form first tells x links upto) where
  came_of : (r j i : ℕ) (c : Came V) → r < upto → j < x.config.now.nodes → has_id x.awake i ≡ true → i ≢ j → c ≡ came_at links r j i → IsCame (talk_in form x links) x.config.now.m r j i c
  came_of r j i c low low_j on ne is = subst (IsCame (talk_in form x links) x.config.now.m r j i) (sym is) (h.heard r j i low low_j on ne)

  pub kind_even : (r j i : ℕ) → r < upto → r ≤ x.config.now.m → j < x.config.now.nodes → has_id x.awake i ≡ true → i ≢ j → came.Untouched ≡ came_at links r j i
      → frame_kind (rounds_upto (talk_in form x links) x.config.now.m i) r j ≡ (if has_id x.full j then None else Some 3)
  kind_even r j i low few low_j on ne is =
      even_kind form first tells cells in_range made fits x (item_of links) h.set h.sys h.run r j i few low_j (h.set.awake i on) (came_of r j i came.Untouched low low_j on ne is)

  pub kind_told : (r j i : ℕ) (v : V) → r < upto → j < x.config.now.nodes → has_id x.awake i ≡ true → i ≢ j → came.Told v ≡ came_at links r j i
      → frame_kind (rounds_upto (talk_in form x links) x.config.now.m i) r j ≡ None
  kind_told r j i v low low_j on ne is =
      let c = came_of r j i (came.Told v) low low_j on ne is in
      ap (λ (n : ℕ). frame_kind (rounds_upto (talk_in form x links) x.config.now.m i) n j) c.1 ∙ ap bad_kind c.2

  pub heard_first_even : (q i : ℕ) → 0 < upto → q < x.config.now.nodes → has_id x.awake i ≡ true → i ≢ q → came.Untouched ≡ came_at links 0 q i
      → heard (rounds_upto (talk_in form x links) x.config.now.m i) (q ∷ []) ≡ (if has_id x.full q then Plain (item_of links q) else Fault 0)
  heard_first_even q i low low_q on ne is =
      heard_even form first tells cells in_range made fits x (item_of links) h.set h.sys h.run q i low_q (h.set.awake i on) (came_of 0 q i came.Untouched low low_q on ne is)

  pub heard_first_bad_at : (q i k : ℕ) → 0 < upto → q < x.config.now.nodes → has_id x.awake i ≡ true → i ≢ q → came.Bad k ≡ came_at links 0 q i
      → heard (rounds_upto (talk_in form x links) x.config.now.m i) (q ∷ []) ≡ Fault 0
  heard_first_bad_at q i k low low_q on ne is =
      heard_first_bad form first tells cells in_range made fits x (item_of links) h.set h.sys h.run i q k (came_of 0 q i (came.Bad k) low low_q on ne is).1

  pub heard_first_told : (q i : ℕ) (v : V) → 0 < upto → q < x.config.now.nodes → has_id x.awake i ≡ true → i ≢ q → came.Told v ≡ came_at links 0 q i
      → heard (rounds_upto (talk_in form x links) x.config.now.m i) (q ∷ []) ≡ Plain v
  heard_first_told q i v low low_q on ne is = ap said (came_of 0 q i (came.Told v) low low_q on ne is).2

  pub not_good_first : (q i : ℕ) → 0 < upto → q < x.config.now.nodes → has_id x.awake i ≡ true → i ≢ q → came.Good ≡ came_at links 0 q i → ⊥
  not_good_first q i low low_q on ne is = let c = (came_of 0 q i came.Good low low_q on ne is).1 in omega arith

  pub not_told_relay : (k q i : ℕ) (v : V) → suc k < upto → q < x.config.now.nodes → has_id x.awake i ≡ true → i ≢ q → came.Told v ≡ came_at links (suc k) q i → ⊥
  not_told_relay k q i v low low_q on ne is = let c = (came_of (suc k) q i (came.Told v) low low_q on ne is).1 in omega (arith, c)

  pub heard_bad_at : (k q i n : ℕ) (front : List ℕ) → length front ≡ suc k → suc k < upto → q < x.config.now.nodes → has_id x.awake i ≡ true → i ≢ q → came.Bad n ≡ came_at links (suc k) q i
      → heard (rounds_upto (talk_in form x links) x.config.now.m i) (front ++ q ∷ []) ≡ Fault 0
  heard_bad_at k q i n front long low low_q on ne is =
      heard_relay_bad form first tells cells in_range made fits x (item_of links) h.set h.sys h.run i q k n front long (came_of (suc k) q i (came.Bad n) low low_q on ne is).1

  pub heard_even_at : (k q i : ℕ) (front : List ℕ) → length front ≡ suc k → suc k < upto → suc k ≤ x.config.now.m → q < x.config.now.nodes → has_id x.awake i ≡ true → i ≢ q → came.Untouched ≡ came_at links (suc k) q i
      → place_in (paths_of ((talk_in form x links).members i) (suc k) q) front < length (paths_of ((talk_in form x links).members i) (suc k) q)
      → heard (rounds_upto (talk_in form x links) x.config.now.m i) (front ++ q ∷ [])
      ≡ passed_on (heard (rounds_upto (talk_in form x links) x.config.now.m q)) (source (has_id x.full q) ((talk_in form x links).members q) ((talk_in form x links).members i) q front)
  heard_even_at k q i front long low few low_q on ne is placed =
      heard_relay_even form first tells cells in_range made fits x (item_of links) h.set h.sys h.run i q k front long few low_q (h.set.awake i on) (came_of (suc k) q i came.Untouched low low_q on ne is) placed

  pub heard_good_at : (k q i : ℕ) (front : List ℕ) → length front ≡ suc k → suc k < upto → suc k ≤ x.config.now.m → q < x.config.now.nodes → has_id x.awake i ≡ true → i ≢ q → came.Good ≡ came_at links (suc k) q i
      → place_in (paths_of ((talk_in form x links).members i) (suc k) q) front < length (paths_of ((talk_in form x links).members i) (suc k) q)
      → (result : Wrapped V)
      → ((xs : List (Wrapped V)) → come form first tells cells in_range made fits x (item_of links) h.set h.sys h.run (suc k) q i (content_of form first tells cells in_range made fits x (item_of links) h.set h.sys h.run (suc k) q) ≡ Good xs
      → place_in (paths_of ((talk_in form x links).members i) (suc k) q) front < length xs
      → result ≡ slice_index_or xs (place_in (paths_of ((talk_in form x links).members i) (suc k) q) front) (Fault 0))
      → heard (rounds_upto (talk_in form x links) x.config.now.m i) (front ++ q ∷ []) ≡ result
  heard_good_at k q i front long low few low_q on ne is placed result reads =
      heard_relay_good form first tells cells in_range made fits x (item_of links) h.set h.sys h.run i q k front long few low_q (h.set.awake i on) (came_of (suc k) q i came.Good low low_q on ne is).2 placed result reads

  pub kind_good : (r j i : ℕ) → r < upto → j < x.config.now.nodes → has_id x.awake i ≡ true → i ≢ j → came.Good ≡ came_at links r j i
      → frame_kind (rounds_upto (talk_in form x links) x.config.now.m i) r j ≡ None
  kind_good r j i low low_j on ne is = (came_of r j i came.Good low low_j on ne is).2

  -- the same by the path before the last node
  pub bad_front : (q i n : ℕ) (front : List ℕ) → 0 < length front → length front < upto → q < x.config.now.nodes → has_id x.awake i ≡ true → i ≢ q → came.Bad n ≡ came_at links (length front) q i
      → heard (rounds_upto (talk_in form x links) x.config.now.m i) (front ++ q ∷ []) ≡ Fault 0
  bad_front q i n [] some low low_q on ne is = absurd (omega arith)
  bad_front q i n (a ∷ rest) some low low_q on ne is = heard_bad_at (length rest) q i n (a ∷ rest) refl low low_q on ne is

  pub told_front : (q i : ℕ) (v : V) (front : List ℕ) → 0 < length front → length front < upto → q < x.config.now.nodes → has_id x.awake i ≡ true → i ≢ q → came.Told v ≡ came_at links (length front) q i → ⊥
  told_front q i v [] some low low_q on ne is = omega arith
  told_front q i v (a ∷ rest) some low low_q on ne is = not_told_relay (length rest) q i v low low_q on ne is

  pub even_front : (q i : ℕ) (front : List ℕ) → 0 < length front → length front < upto → length front ≤ x.config.now.m → q < x.config.now.nodes → has_id x.awake i ≡ true → i ≢ q → came.Untouched ≡ came_at links (length front) q i
      → place_in (paths_of ((talk_in form x links).members i) (length front) q) front < length (paths_of ((talk_in form x links).members i) (length front) q)
      → heard (rounds_upto (talk_in form x links) x.config.now.m i) (front ++ q ∷ [])
      ≡ passed_on (heard (rounds_upto (talk_in form x links) x.config.now.m q)) (source (has_id x.full q) ((talk_in form x links).members q) ((talk_in form x links).members i) q front)
  even_front q i [] some low few low_q on ne is placed = absurd (omega arith)
  even_front q i (a ∷ rest) some low few low_q on ne is placed = heard_even_at (length rest) q i (a ∷ rest) refl low few low_q on ne is placed

  pub good_front : (q i : ℕ) (front : List ℕ) → 0 < length front → length front < upto → length front ≤ x.config.now.m → q < x.config.now.nodes → has_id x.awake i ≡ true → i ≢ q → came.Good ≡ came_at links (length front) q i
      → place_in (paths_of ((talk_in form x links).members i) (length front) q) front < length (paths_of ((talk_in form x links).members i) (length front) q)
      → (own result : Wrapped V)
      → own ≡ passed_on (heard (rounds_upto (talk_in form x links) x.config.now.m q)) (source (has_id x.full q) ((talk_in form x links).members q) ((talk_in form x links).members i) q front)
      → ((c : Content) (xs : List (Wrapped V)) → HasOwn form ((talk_in form x links).expect (length front) q ((talk_in form x links).members i)) (place_in (paths_of ((talk_in form x links).members i) (length front) q) front) own c
      → arrives form.relay_in ((talk_in form x links).change (length front) q i) ((talk_in form x links).expect (length front) q ((talk_in form x links).members i)) ((talk_in form x links).expect (length front) q ((talk_in form x links).members i)) c ≡ Good xs
      → place_in (paths_of ((talk_in form x links).members i) (length front) q) front < length xs → result ≡ slice_index_or xs (place_in (paths_of ((talk_in form x links).members i) (length front) q) front) (Fault 0))
      → heard (rounds_upto (talk_in form x links) x.config.now.m i) (front ++ q ∷ []) ≡ result
  good_front q i [] some low few low_q on ne is placed own result own_is reads = absurd (omega arith)
  good_front q i (a ∷ rest) some low few low_q on ne is placed own result own_is reads =
      heard_good_at (length rest) q i (a ∷ rest) refl low few low_q on ne is placed result
      (λ xs good within. reads (content_of form first tells cells in_range made fits x (item_of links) h.set h.sys h.run (suc (length rest)) q) xs
      (subst (λ (o : Wrapped V). HasOwn form ((talk_in form x links).expect (suc (length rest)) q ((talk_in form x links).members i)) (place_in (paths_of ((talk_in form x links).members i) (suc (length rest)) q) (a ∷ rest)) o
      (content_of form first tells cells in_range made fits x (item_of links) h.set h.sys h.run (suc (length rest)) q)) (sym own_is)
      (has_own form first tells cells in_range made fits x (item_of links) h.set h.sys h.run i q (length rest) (a ∷ rest) refl few low_q))
      good within)
