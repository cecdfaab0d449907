-- What is seen of states at places.
use Rattle.std.proofs.Common.{ℕ, zero, suc, ◌≡◌, ◌≢◌, ◌<◌, ◌≤◌, ◌+◌, Bool, true, false, not, ◌&&◌, ◌||◌, ◌==◌, List, [], ◌∷◌, length, map, get_or, set, Option, None, Some, replicate, refl, sym, ap, subst, ◌∙◌, ◌⊎◌, get_or-set_same, get_or-set_other, if◌then◌else◌, inl, inr, arith, ne_eqb, eq-eqb, lt-ltb, le-ltb, nat_lt}
use Rattle.std.specs.Prelude.{is_some, slice_get, IsTrue, ◌↔◌}
use Rattle.std.proofs.Math.Bool.{or-false}
use Rattle.std.specs.List.{range_with_len}
use Rattle.std.proofs.lemmas.Bool.{cases_eq, cases_lt, cond-true, cond-false}
use Rattle.std.proofs.lemmas.List.{get_or_past}
use Rattle.std.proofs.lemmas.List.FromFn.{get_or-map-range_with_len, length-map-range_with_len, fill_by_all}
use Rattle.node_grid.specs.NodeSet.{ids_below, has_id, ids_where, with_id, without_id, minus_of, union_of, IsIdSet}
use Rattle.node_grid.specs.NodeSetLaws.{filter_range, hasnt-above, hasnt-filter, has-filter, has-range, has-with_id, has-without_id, has_filtered}
use Rattle.node_grid.specs.ListFacts.{got_other, got_set}
use Rattle.node_grid.specs.NumberFacts.{get_or-zeros}
use Rattle.node_grid.specs.TruthFacts.{or_yes}
use Rattle.agreed_state.specs.Agreed.{AgreedView}
use Rattle.shared_states.specs.Sharing.{state_at, without_state, with_state, shared_with, IsShared, IsOne}
use Rattle.shared_states.specs.Places.{state_by, states_by, ArePlaced, AreAtOne, IsAlike, LeadAlike}
use Rattle.shared_states.proofs.Free.{ids_ids}

-- lists of n entries that are made entry by entry
pub same_map : {X : Type 0} (n : ℕ) (f g : ℕ → X) → ((i : ℕ) → i < n → f i ≡ g i) → map f (ids_below n) ≡ map g (ids_below n)
same_map n f g h = go 0 n (λ i low high. h i (omega arith))
  where
    go : (a r : ℕ) → ((i : ℕ) → a ≤ i → i < a + r → f i ≡ g i) → map f (range_with_len a r) ≡ map g (range_with_len a r)
    go a zero e = refl
    go a (suc r) e = let here = e a (omega arith) (omega arith) in let rest = go (a + 1) r (λ i low high. e i (omega arith) (omega arith)) in rw (here, rest) refl

-- the state of any number
pub state_is : (n : ℕ) (awake places : List ℕ) (states : List AgreedView) (i : ℕ) → IsIdSet n awake → state_at (states_by n awake places states) i ≡ state_by awake places states i
state_is n awake places states i ids = elim (cases_lt i n) [
  | inl low ↦ get_or-map-range_with_len (state_by awake places states) 0 n i i None low (omega arith)
  | inr high ↦
      get_or_past (states_by n awake places states) i None (omega (arith, length-map-range_with_len (state_by awake places states) 0 n))
      ∙ sym (cond-false (has_id awake i) _ None (hasnt-above n awake i ids high))
]

-- the state of a node in what is seen
pub seen : (n : ℕ) (awake places : List ℕ) (states : List AgreedView) (view : List (Option AgreedView)) (i : ℕ) → IsIdSet n awake → states_by n awake places states ≡ view → state_at view i ≡ state_by awake places states i
seen n awake places states view i ids e = ap (λ (v : List (Option AgreedView)). state_at v i) (sym e) ∙ state_is n awake places states i ids

pub there : {X : Type 0} (xs : List X) (i : ℕ) → i < length xs → is_some (slice_get xs i) ≡ true
there [] i h = absurd (omega arith)
there (x ∷ xs) zero h = refl
there (x ∷ xs) (suc i) h = there xs i (omega arith)

pub got_same : {X : Type 0} (xs ys : List X) (i : ℕ) → i < length xs → xs ≡ ys → slice_get xs i ≡ slice_get ys i
got_same xs ys i h e = ap (λ zs. slice_get zs i) e

module _ (n : ℕ) (awake places : List ℕ) (states : List AgreedView) (ids : IsIdSet n awake) (room : length states ≡ n) (placed : ArePlaced n awake places) where
  -- who has one
  pub has_state : (i : ℕ) → is_some (state_at (states_by n awake places states) i) ≡ has_id awake i
  has_state i = ap is_some (state_is n awake places states i ids) ∙ by (has_id awake i) refl
    where
      by : (b : Bool) → has_id awake i ≡ b → is_some (state_by awake places states i) ≡ has_id awake i
      by true e = ap is_some (cond-true (has_id awake i) _ None e) ∙ there states (get_or places i 0) (omega (arith, placed i e)) ∙ sym e
      by false e = ap is_some (cond-false (has_id awake i) _ None e) ∙ sym e

  pub who_has : awake ≡ ids_where (λ i. is_some (state_at (states_by n awake places states) i)) n
  who_has = ids ∙ filter_range (λ k. has_id awake k) (λ k. is_some (state_at (states_by n awake places states) k)) 0 n (λ k low high. sym (has_state k))

  -- two at one place
  pub shared : (i j : ℕ) → has_id awake i ≡ true → has_id awake j ≡ true → get_or places i 0 ≡ get_or places j 0 → IsShared (states_by n awake places states) i j
  shared i j on other same = (
    has_state i ∙ on,
    state_is n awake places states j ids ∙ cond-true (has_id awake j) _ None other ∙ ap (slice_get states) (sym same)
        ∙ sym (state_is n awake places states i ids ∙ cond-true (has_id awake i) _ None on),
  )

  pub one : AreAtOne awake places → IsOne (states_by n awake places states)
  one same i j on other = let p = sym (has_state i) ∙ on in let q = sym (has_state j) ∙ other in (shared i j p q (sym (same i j p q))).1

  -- those that are alike
  pub alike_by : (alike : List ℕ) (i : ℕ) → has_id awake i ≡ true → ((j : ℕ) → IsTrue (has_id alike j) ↔ IsAlike states awake places (get_or places i 0) j) → (j : ℕ) → IsTrue (has_id alike j) ↔ IsShared (states_by n awake places states) i j
  alike_by alike i on is j =
      let mine : state_at (states_by n awake places states) i ≡ slice_get states (get_or places i 0) = state_is n awake places states i ids ∙ cond-true (has_id awake i) _ None on in
      let other = state_is n awake places states j ids in (
        λ t. let p = (is j).0 t in (has_state i ∙ on, other ∙ cond-true (has_id awake j) _ None p.0 ∙ p.1 ∙ sym mine),
        λ p.
            let up : has_id awake j ≡ true = sym (has_state j) ∙ ap is_some p.1 ∙ p.0 in
            (is j).1 (up, sym (cond-true (has_id awake j) _ None up) ∙ sym other ∙ p.1 ∙ mine),
      )

  -- none has the state of a node that has none
  pub alike_none : (i : ℕ) → has_id awake i ≡ false → (j : ℕ) → IsTrue (has_id [] j) ↔ IsShared (states_by n awake places states) i j
  alike_none i off j = (
    λ t. absurd (let z : false ≡ true = t in cc),
    λ p. absurd (let z : false ≡ true = sym off ∙ sym (has_state i) ∙ p.0 in cc),
  )

  -- all that have one have the same
  pub alike_all : (i : ℕ) → has_id awake i ≡ true → AreAtOne awake places → (j : ℕ) → IsTrue (has_id awake j) ↔ IsShared (states_by n awake places states) i j
  alike_all i on same j = (
    λ up. shared i j on up (same j i up on),
    λ p. sym (has_state j) ∙ ap is_some p.1 ∙ p.0,
  )

-- other places that lead to the same
pub led : (n : ℕ) (awake places others : List ℕ) (states : List AgreedView) → LeadAlike states awake places others → states_by n awake others states ≡ states_by n awake places states
led n awake places others states alike = same_map n (state_by awake others states) (state_by awake places states) (λ i low. by i (has_id awake i) refl)
  where
    by : (i : ℕ) (b : Bool) → has_id awake i ≡ b → state_by awake others states i ≡ state_by awake places states i
    by i true e = cond-true (has_id awake i) _ None e ∙ alike i e ∙ sym (cond-true (has_id awake i) _ None e)
    by i false e = cond-false (has_id awake i) _ None e ∙ sym (cond-false (has_id awake i) _ None e)

-- ---- what a call leaves

-- a list of n entries is made of them
pub whole : (n : ℕ) (view : List (Option AgreedView)) → length view ≡ n → map (state_at view) (ids_below n) ≡ view
whole n view long = sym (fill_by_all (state_at view) view n None long (λ k h. refl))

pub long_view : (n : ℕ) (awake places : List ℕ) (states : List AgreedView) (view : List (Option AgreedView)) → states_by n awake places states ≡ view → length view ≡ n
long_view n awake places states view e = ap length (sym e) ∙ length-map-range_with_len (state_by awake places states) 0 n

-- after the state of one node was taken away
pub forgotten : (n : ℕ) (awake places : List ℕ) (states : List AgreedView) (view : List (Option AgreedView)) (i : ℕ) → IsIdSet n awake → states_by n awake places states ≡ view
    → states_by n (without_id awake i) places states ≡ without_state n view i
forgotten n awake places states view i ids e = same_map n (state_by (without_id awake i) places states) (λ j. if j == i then None else state_at view j) (λ j low. by j (j == i) refl)
  where
    by : (j : ℕ) (b : Bool) → (j == i) ≡ b → state_by (without_id awake i) places states j ≡ (if j == i then None else state_at view j)
    by j true same =
        cond-false (has_id (without_id awake i) j) _ None (has-without_id awake i j ∙ ap (λ b. not b && has_id awake j) same)
        ∙ sym (cond-true (j == i) None (state_at view j) same)
    by j false other =
        ap (λ b. if b then slice_get states (get_or places j 0) else None) (has-without_id awake i j ∙ ap (λ b. not b && has_id awake j) other)
        ∙ sym (cond-false (j == i) None (state_at view j) other ∙ ap (λ v. state_at v j) (sym e) ∙ state_is n awake places states j ids)

-- after some nodes were given a state, at a place of no other
pub replaced : (n : ℕ) (awake places places' nodes : List ℕ) (states : List AgreedView) (view : List (Option AgreedView)) (place : ℕ) (a : AgreedView) → IsIdSet n awake → states_by n awake places states ≡ view
    → place < length states → ((i : ℕ) → i < n → get_or places' i 0 ≡ (if has_id nodes i then place else get_or places i 0))
    → ((i : ℕ) → has_id (minus_of awake nodes) i ≡ true → get_or places i 0 ≢ place)
    → states_by n (union_of n (minus_of awake nodes) nodes) places' (set states place a) ≡ with_state n view nodes a
replaced n awake places places' nodes states view place a ids e room put free =
    same_map n (state_by joined places' (set states place a)) (λ j. if has_id nodes j then Some a else state_at view j) (λ j low. by j low (has_id nodes j) refl)
  where
    joined : List ℕ
    joined = union_of n (minus_of awake nodes) nodes

    in_union : (j : ℕ) → j < n → has_id joined j ≡ (has_id (minus_of awake nodes) j || has_id nodes j)
    in_union j low = has-filter (λ k. has_id (minus_of awake nodes) k || has_id nodes k) n j low

    by : (j : ℕ) → j < n → (b : Bool) → has_id nodes j ≡ b → state_by joined places' (set states place a) j ≡ (if has_id nodes j then Some a else state_at view j)
    by j low true on =
        cond-true (has_id joined j) _ None (in_union j low ∙ ap (λ b. has_id (minus_of awake nodes) j || b) on ∙ or_yes (has_id (minus_of awake nodes) j))
        ∙ ap (slice_get (set states place a)) (put j low ∙ cond-true (has_id nodes j) place (get_or places j 0) on)
        ∙ got_set states place a room
        ∙ sym (cond-true (has_id nodes j) (Some a) (state_at view j) on)
    by j low false off = go (has_id awake j) refl
      where
        other : has_id (minus_of awake nodes) j ≡ has_id awake j
        other = has_filtered (λ k. not (has_id nodes k)) awake j ∙ ap (λ b. not b && has_id awake j) off

        in_joined : has_id joined j ≡ has_id awake j
        in_joined = in_union j low ∙ ap (λ b. has_id (minus_of awake nodes) j || b) off ∙ or-false (has_id (minus_of awake nodes) j) ∙ other

        was : state_at view j ≡ state_by awake places states j
        was = ap (λ v. state_at v j) (sym e) ∙ state_is n awake places states j ids

        go : (b : Bool) → has_id awake j ≡ b → state_by joined places' (set states place a) j ≡ (if has_id nodes j then Some a else state_at view j)
        go false asleep =
            cond-false (has_id joined j) _ None (in_joined ∙ asleep)
            ∙ sym (cond-false (has_id nodes j) (Some a) (state_at view j) off ∙ was ∙ cond-false (has_id awake j) _ None asleep)
        go true up =
            cond-true (has_id joined j) _ None (in_joined ∙ up)
            ∙ ap (slice_get (set states place a)) (put j low ∙ cond-false (has_id nodes j) place (get_or places j 0) off)
            ∙ got_other states place (get_or places j 0) a (free j (other ∙ up))
            ∙ sym (cond-false (has_id nodes j) (Some a) (state_at view j) off ∙ was ∙ cond-true (has_id awake j) _ None up)

-- after one node was given that of another
pub shared_after : (n : ℕ) (awake places : List ℕ) (states : List AgreedView) (view : List (Option AgreedView)) (i j : ℕ) → IsIdSet n awake → length places ≡ n → i < n → has_id awake j ≡ true → states_by n awake places states ≡ view
    → states_by n (with_id n awake i) (set places i (get_or places j 0)) states ≡ shared_with n view i j
shared_after n awake places states view i j ids long low there e =
    same_map n (state_by up places' states) (λ k. if k == i then state_at view j else state_at view k) (λ k within. by k within (cases_eq k i))
  where
    up : List ℕ
    up = with_id n awake i

    places' : List ℕ
    places' = set places i (get_or places j 0)

    was : (k : ℕ) → state_at view k ≡ state_by awake places states k
    was k = ap (λ v. state_at v k) (sym e) ∙ state_is n awake places states k ids

    by : (k : ℕ) → k < n → (k ≡ i) ⊎ (k ≢ i) → state_by up places' states k ≡ (if k == i then state_at view j else state_at view k)
    by k within (inl same) =
        cond-true (has_id up k) _ None (has-with_id n awake i k within ∙ ap (λ b. b || has_id awake k) (eq-eqb k i same))
        ∙ ap (slice_get states) (ap (λ q. get_or places' q 0) same ∙ get_or-set_same places i (get_or places j 0) 0 (omega (arith, long)))
        ∙ sym (cond-true (k == i) (state_at view j) (state_at view k) (eq-eqb k i same) ∙ was j ∙ cond-true (has_id awake j) _ None there)
    by k within (inr other) =
        ap (λ b. if b then slice_get states (get_or places' k 0) else None) (has-with_id n awake i k within ∙ ap (λ b. b || has_id awake k) (ne_eqb k i other))
        ∙ ap (λ p. if has_id awake k then slice_get states p else None) (get_or-set_other places i k (get_or places j 0) 0 other)
        ∙ sym (cond-false (k == i) (state_at view j) (state_at view k) (ne_eqb k i other) ∙ was k)

-- at the beginning
pub begun : (n nodes : ℕ) (a : AgreedView) → 0 < n → nodes ≤ n → states_by n (ids_below nodes) (replicate n 0) (replicate n a) ≡ map (λ i. if nat_lt i nodes then Some a else None) (ids_below n)
begun n nodes a some few = same_map n (state_by (ids_below nodes) (replicate n 0) (replicate n a)) (λ i. if nat_lt i nodes then Some a else None) (λ i low. by i low (cases_lt i nodes))
  where
    first : (m : ℕ) → 0 < m → slice_get (replicate m a) 0 ≡ Some a
    first zero h = absurd (omega arith)
    first (suc m) h = refl

    by : (i : ℕ) → i < n → (i < nodes) ⊎ (nodes ≤ i) → state_by (ids_below nodes) (replicate n 0) (replicate n a) i ≡ (if nat_lt i nodes then Some a else None)
    by i low (inl used) =
        cond-true (has_id (ids_below nodes) i) _ None (has-range 0 nodes i (omega arith) (omega arith))
        ∙ ap (slice_get (replicate n a)) (get_or-zeros n i) ∙ first n some
        ∙ sym (cond-true (nat_lt i nodes) (Some a) None (lt-ltb i nodes used))
    by i low (inr unused) =
        cond-false (has_id (ids_below nodes) i) _ None (hasnt-above nodes (ids_below nodes) i (ids_ids nodes nodes (omega arith)) unused)
        ∙ sym (cond-false (nat_lt i nodes) (Some a) None (le-ltb i nodes unused))

-- ---- a set of marked numbers that grows

pub record Marked (n : ℕ) (s : List ℕ) (i : ℕ) (P : ℕ → Type 0) : Type 0 where
  pub so_far : (k : ℕ) → k < i → IsTrue (has_id s k) ↔ P k
  pub rest : (k : ℕ) → i ≤ k → has_id s k ≡ false

pub marked_more : (n : ℕ) (s : List ℕ) (i : ℕ) (P : ℕ → Type 0) → i < n → Marked n s i P → P i → Marked n (with_id n s i) (i + 1) P
marked_more n s i P low was yes' = record {
  so_far = λ k within. by k within (cases_eq k i);
  rest = λ k high. off k high (cases_lt k n);
}
  where
    by : (k : ℕ) → k < i + 1 → (k ≡ i) ⊎ (k ≢ i) → IsTrue (has_id (with_id n s i) k) ↔ P k
    by k within (inl e) = (
      λ t. subst P (sym e) yes',
      λ p. has-with_id n s i k (omega arith) ∙ ap (λ b. b || has_id s k) (eq-eqb k i e),
    )
    by k within (inr ne) =
        let same : has_id (with_id n s i) k ≡ has_id s k = has-with_id n s i k (omega arith) ∙ ap (λ b. b || has_id s k) (ne_eqb k i ne) in
        let is = was.so_far k (omega arith) in
        (λ t. is.0 (sym same ∙ t), λ p. same ∙ is.1 p)

    off : (k : ℕ) → i + 1 ≤ k → (k < n) ⊎ (n ≤ k) → has_id (with_id n s i) k ≡ false
    off k high (inl within) =
        let ne : k ≢ i = omega arith in
        has-with_id n s i k within ∙ ap (λ b. b || has_id s k) (ne_eqb k i ne) ∙ was.rest k (omega arith)
    off k high (inr past) = hasnt-filter (λ j. (j == i) || has_id s j) n k past

pub marked_same : (n : ℕ) (s : List ℕ) (i : ℕ) (P : ℕ → Type 0) → Marked n s i P → (P i → ⊥) → Marked n s (i + 1) P
marked_same n s i P was no' = record {
  so_far = λ k within. by k within (cases_eq k i);
  rest = λ k high. was.rest k (omega arith);
}
  where
    by : (k : ℕ) → k < i + 1 → (k ≡ i) ⊎ (k ≢ i) → IsTrue (has_id s k) ↔ P k
    by k within (inl e) = (
      λ t. absurd (let off : has_id s k ≡ false = was.rest k (omega arith) in cc),
      λ p. absurd (no' (subst P e p)),
    )
    by k within (inr ne) = was.so_far k (omega arith)
