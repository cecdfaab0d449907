-- The rounds of a phase of a run, by what the code has of it.
use Rattle.std.proofs.Common.{ℕ, zero, suc, ◌≡◌, ◌≢◌, ◌<◌, ◌≤◌, ◌+◌, ◌==◌, Bool, true, false, not, List, [], ◌∷◌, ◌++◌, map, length, None, Some, ◌⊎◌, refl, sym, ap, ap₂, subst, ◌∙◌, inl, inr, arith, eqb-true, ne_eqb}
use Rattle.std.specs.Prelude.{if◌then◌else◌, is_none, slice_index_or, slice_get}
use Rattle.std.proofs.lemmas.Bool.{cases_Bool, cond-true, cond-false, and_parts, or_cases, both_ways}
use Rattle.node_grid.specs.ListFacts.{same_list}
use Rattle.node_grid.specs.SetFacts.{member-lt}
use Rattle.node_grid.specs.TruthFacts.{not_so, none_is}
use Rattle.omh_paths.specs.declared.wrapped.Wrapped.{Wrapped}
use Rattle.omh_paths.specs.declared.wrapped.Wrapped.TheVariants.{Plain, Fault}
use Rattle.omh_paths.specs.Wrapped.{wrapped}
use Rattle.omh_paths.specs.Paths.{place_in}
use Rattle.slot_plan.specs.Slots.{slot_number}
use Rattle.slot_plan.specs.declared.slot.Slot.TheVariants.{Sync, Data}
use Rattle.frames.specs.Content.{Content, Expectation}
use Rattle.frames.specs.Content.Content.{Cold}
use Rattle.frames.specs.Spelling.{IsInRange}
use Rattle.fault_classes.specs.Plan.{Plan}
use Rattle.fault_classes.specs.Line.{effect_at}
use Rattle.agreed_state.specs.Body.{state_len}
use Rattle.protocol.specs.View.{Setting}
use Rattle.protocol.specs.Arrival.{Arrival, ItemForm, said}
use Rattle.protocol.specs.Arrival.Arrival.{Bad, Good}
use Rattle.protocol.specs.Heard.{Rounds, paths_of, looked_up, with_entries, entry, heard}
use Rattle.protocol.specs.Talk.{Talk, arrives, rounds_upto}
use Rattle.protocol.specs.TalkLaws.{first_at, relay_at, heard_push, entries_stable}
use Rattle.protocol.specs.Run.{System}
use Rattle.protocol.specs.Accepted.{IsAccepted}
use Rattle.protocol.specs.Configured.{setting_of}
use Rattle.protocol.specs.Facts.{looked_up_place}
use Rattle.safety.proofs.Talks.{FormFits, HeardIn, entries_of}
use Rattle.safety.proofs.Runs.{grammar}
use Rattle.touched_items.specs.Items.{talk_of, EntryForm, AreEntries, Sizes, sizes_in, IsSent, HasOwn, with_members, first_content, bad_kind}
use Rattle.heard_links.specs.declared.phase.Phase.{Phase}
use Rattle.heard_links.specs.Talks.{members_at, phase_talk, IsSet, IsPhaseOf}
use Rattle.heard_links.specs.Hearing.{frame_kind, is_even, source, passed_on}
use Rattle.heard_links.proofs.Agreeing.{Agree, AreLow, map_low, low_paths, first_rounds, relays_same, heard_same}
use Rattle.heard_links.proofs.Frames.{sent_in_range, heard_small, first_full, first_idle, relay_full, relay_idle}
use Rattle.heard_links.proofs.Lengths.{good_long}
use Rattle.heard_links.proofs.Looking.{passed_at}

pub bad_with : {V : Type 0} (paths : List (List ℕ)) (a : Arrival (List (Wrapped V))) → bad_kind (with_entries paths a) ≡ bad_kind a
bad_with paths (Bad k) = refl
bad_with paths (Good xs) = refl

zero_if : (b : Bool) (n : ℕ) → (if b then n else n) ≡ n
zero_if true n = refl
zero_if false n = refl

pub relay_kind_is : {V : Type 0} (x : Rounds V) (k j : ℕ) → frame_kind x (suc k) j ≡ bad_kind (x.relay (suc k) j)
relay_kind_is x k j = cond-false (suc k == 0) (bad_kind (x.first j)) (bad_kind (x.relay (suc k) j)) (ne_eqb (suc k) 0 (λ e. omega (arith, e)))

pub known : {V : Type 0} (P : V → Type 0) (m : ℕ) (w : Wrapped V) → m ≤ 3 → HeardIn P m w → w ≢ Fault 255
known P m (Plain v) few h e = cc
known P m (Fault k) few h e = let is : k ≡ 255 = cc in omega (arith, is, h, few)

-- a talk's evenness, by its parts
pub record EvenParts {V : Type 0} (t : Talk V) (r j i : ℕ) : Type 0 where
  pub clean : t.change r j i ≡ None
  pub read : (r ≡ 0) ⊎ ((t.full j ≡ false) ⊎ (t.members j ≡ t.members i))

pub even_parts : {V : Type 0} (t : Talk V) (r j i : ℕ) → is_even t r j i ≡ true → EvenParts t r j i
even_parts t r j i h =
    let p = and_parts (is_none (t.change r j i)) _ h in record {
      clean = none_is (t.change r j i) p.0;
      read = elim (or_cases (r == 0) _ p.1) [
        | inl here ↦ inl (eqb-true r 0 here)
        | inr later ↦ elim (or_cases (not (t.full j)) _ later) [
          | inl idle ↦ inr (inl (not_so (t.full j) idle))
          | inr same ↦ inr (inr (same_list (t.members j) (t.members i) same))
        ]
      ];
    }

pub same_members : {V : Type 0} {t : Talk V} {k j i : ℕ} → EvenParts t (suc k) j i → t.full j ≡ true → t.members j ≡ t.members i
same_members {t = t} {j = j} {i = i} parts f = elim parts.read [
  | inl zero_is ↦ absurd (omega (arith, zero_is))
  | inr later ↦ elim later [
    | inl idle ↦ absurd (both_ways _ idle f)
    | inr same ↦ same
  ]
]

-- what is expected, under a setting
abbrev under : Setting → ℕ → ℕ → ℕ → List ℕ → Expectation
under s period slot j ms = record {
  version = s.config.version;
  capacity = s.capacity;
  nodes = s.config.nodes;
  m = s.config.m;
  period = period;
  slot = slot;
  sender = j;
  members = ms;
  state_len = state_len s.config;
  tasks = length s.config.graph.tasks;
  due = 0;
}

module _ {V : Type 0} {N : ℕ} (form : ItemForm V) (first : ℕ → ℕ) (tells : System → ℕ → ℕ → V) (cells : EntryForm V) (in_range : Sizes → V → Type 0) (made : AreEntries form cells in_range)
    (fits : (sys : System) → IsAccepted sys → (p : ℕ) → FormFits (in_range (sizes_in sys)) (talk_of form first tells sys p) sys.setting.config.m)
    (x : Phase N) (item : ℕ → V) (set : IsSet x) (sys : System) (run : IsPhaseOf form first tells sys x item) where
  abbrev t : Talk V
  t = phase_talk form x item

  abbrev u : Talk V
  u = talk_of form first tells sys x.period

  abbrev m : ℕ
  m = x.config.now.m

  abbrev nodes : ℕ
  nodes = x.config.now.nodes

  abbrev P : V → Type 0
  P = in_range (sizes_in sys)

  m_is : sys.setting.config.m ≡ m
  m_is = ap (λ (s : Setting). s.config.m) run.setting

  fit : FormFits P u m
  fit = subst (λ (n : ℕ). FormFits P u n) m_is (fits sys run.accepted x.period)

  first_slot_is : x.first ≡ first sys.setting.config.m
  first_slot_is = run.first_is ∙ ap first (sym m_is)

  -- what is expected of a slot behind the first one
  expects : (r j : ℕ) (ms : List ℕ) → t.expect r j ms ≡ under (setting_of x.config.now) x.period (x.first + r) j ms
  expects r j ms =
      let b = set.behind in
      ap₂ (λ (those : List ℕ) (due : ℕ). record (under (setting_of x.config.now) x.period (x.first + r) j ms) { members = those; due = due })
      (cond-false (x.first + r == slot_number m Sync) [] ms (ne_eqb (x.first + r) 0 (λ e. omega arith))) (zero_if (x.first + r == slot_number m Data) 0)

  pub agree : Agree nodes m t u
  agree = record {
    form = refl;
    change = λ r j i few. ap₂ (λ (plan : Plan) (f : ℕ). effect_at plan.lines x.period (f + r) j i) (sym run.plan) first_slot_is;
    expect = λ r j ms few. expects r j ms ∙ ap₂ (λ (s : Setting) (f : ℕ). under s x.period (f + r) j ms) (sym run.setting) first_slot_is;
    members = λ i low. sym (run.members i low);
    full = λ i low. sym (run.full i low);
    item = λ i low f. sym (run.told i low f);
  }

  pub members_low : (i : ℕ) → i < nodes → AreLow nodes (t.members i)
  members_low i low q on = member-lt nodes (members_at x i) q (set.members i) on

  -- what was heard in a run is what the code's talk says
  pub heard_is : (r i : ℕ) (path : List ℕ) → r ≤ m → i < nodes → AreLow nodes path → heard (rounds_upto t r i) path ≡ heard (rounds_upto u r i) path
  heard_is r i path few low on = heard_same nodes m t u agree members_low r i path few low on

  pub first_is : (i j : ℕ) → i < nodes → j < nodes → (rounds_upto t m i).first j ≡ (rounds_upto u m i).first j
  first_is i j low_i low_j = first_rounds nodes m t u agree members_low m i j low_i low_j

  pub relay_same : (k i j : ℕ) → i < nodes → j < nodes → (rounds_upto t m i).relay k j ≡ (rounds_upto u m i).relay k j
  relay_same k i j low_i low_j = relays_same nodes m t u agree members_low m k i j (omega arith) low_i low_j

  pub heard_few : (i : ℕ) (path : List ℕ) → i < nodes → AreLow nodes path → HeardIn P m (heard (rounds_upto t m i) path)
  heard_few i path low on = subst (HeardIn P m) (sym (heard_is m i path (omega arith) low on)) (heard_small grammar P form first tells sys x.period m fit i path)

  -- ---- relay frames, as they are sent

  -- the entries that a node sends
  abbrev entries : ℕ → ℕ → List (Wrapped V)
  entries r j = map (λ path. wrapped (heard (rounds_upto t m j) path)) (paths_of (t.members j) r j)

  abbrev pub content_of : ℕ → ℕ → Content
  content_of r j = if t.full j then form.relay (entries r j) else Cold

  -- what a node has of them
  pub relay_is : (k j i : ℕ) → suc k ≤ m
      → (rounds_upto t m i).relay (suc k) j
      ≡ with_entries (paths_of (t.members i) (suc k) j) (arrives form.relay_in (t.change (suc k) j i) (t.expect (suc k) j (t.members i)) (t.expect (suc k) j (t.members i)) (content_of (suc k) j))
  relay_is k j i low =
      relay_at t m k i j (omega arith)
      ∙ ap (λ (es : List (Wrapped V)). with_entries (paths_of (t.members i) (suc k) j)
      (arrives form.relay_in (t.change (suc k) j i) (t.expect (suc k) j (t.members i)) (t.expect (suc k) j (t.members i)) (if t.full j then form.relay es else Cold)))
      (entries_stable t m k j (t.members j) (omega arith))

  u_entries : (k j : ℕ) → suc k ≤ m → j < nodes → entries_of u (u.members j) k j ≡ entries (suc k) j
  u_entries k j low low_j =
      entries_stable u m k j (u.members j) (omega arith)
      ∙ ap (λ (ms : List ℕ). map (λ path. wrapped (heard (rounds_upto u m j) path)) (paths_of ms (suc k) j)) (run.members j low_j)
      ∙ map_low (λ path. wrapped (heard (rounds_upto u m j) path)) (λ path. wrapped (heard (rounds_upto t m j) path)) nodes (paths_of (t.members j) (suc k) j)
      (low_paths nodes (t.members j) (suc k) j (members_low j low_j)) (λ path on. ap wrapped (sym (heard_is m j path (omega arith) low_j on)))

  -- they are in range of what their sender expects
  sent_range : (k j : ℕ) → suc k ≤ m → j < nodes → IsInRange (t.expect (suc k) j (t.members j)) (form.relay (entries (suc k) j))
  sent_range k j low low_j =
      subst (λ (es : List (Wrapped V)). IsInRange (t.expect (suc k) j (t.members j)) (form.relay es)) (u_entries k j low low_j)
      (subst (λ (e : Expectation). IsInRange e (form.relay (entries_of u (u.members j) k j))) (sym (agree.expect (suc k) j (t.members j) low ∙ ap (u.expect (suc k) j) (agree.members j low_j)))
      (sent_in_range grammar P form first tells sys x.period m fit k j low))

  pub sent : (k j i : ℕ) → suc k ≤ m → j < nodes → IsSent (t.expect (suc k) j (t.members i)) (form.relay (entries (suc k) j))
  sent k j i low low_j = record {
    members = t.members j;
    in_range =
        subst (λ (e : Expectation). IsInRange e (form.relay (entries (suc k) j)))
        (expects (suc k) j (t.members j) ∙ sym (ap (λ (e : Expectation). with_members e (t.members j)) (expects (suc k) j (t.members i)))) (sent_range k j low low_j);
  }

  -- and so is what a node says of itself
  pub item_range : (j i : ℕ) → j < nodes → i < nodes → (own : Wrapped V) → own ≡ (if t.full j then Plain (item j) else Fault 0) → IsInRange (t.expect 0 j (t.members i)) (first_content form own)
  item_range j i low_j low_i own is =
      let there : u.expect 0 j (u.members i) ≡ t.expect 0 j (t.members i) = sym (agree.expect 0 j (t.members i) (omega arith) ∙ ap (u.expect 0 j) (agree.members i low_i)) in
      subst (λ (e : Expectation). IsInRange e (first_content form own)) there
      (elim (cases_Bool (t.full j)) [
        | inl f ↦
            subst (λ (o : Wrapped V). IsInRange (u.expect 0 j (u.members i)) (first_content form o)) (sym (is ∙ cond-true (t.full j) _ _ f))
            (subst (λ (v : V). IsInRange (u.expect 0 j (u.members i)) (form.item v)) (run.told j low_j f) (fit.item_sent j i))
        | inr n ↦
            subst (λ (o : Wrapped V). IsInRange (u.expect 0 j (u.members i)) (first_content form o)) (sym (is ∙ cond-false (t.full j) _ _ n)) (fit.cold_sent 0 j i)
      ])

  -- what a node has of a first frame
  pub first_told : (j i : ℕ) (own : Wrapped V) → own ≡ (if t.full j then Plain (item j) else Fault 0)
      → (rounds_upto t m i).first j ≡ arrives form.item_in (t.change 0 j i) (t.expect 0 j (t.members i)) (t.expect 0 j (t.members i)) (first_content form own)
  first_told j i own is =
      ap (λ (f : ℕ → Arrival V). f j) (first_at t m i)
      ∙ ap (λ (c : Content). arrives form.item_in (t.change 0 j i) (t.expect 0 j (t.members i)) (t.expect 0 j (t.members i)) c) (said_as (t.full j) ∙ ap (first_content form) (sym is)) where
        said_as : (b : Bool) → (if b then form.item (item j) else Cold) ≡ first_content form (if b then Plain (item j) else Fault 0)
        said_as true = refl
        said_as false = refl

  -- ---- untouched frames

  first_even : (j i : ℕ) → j < nodes → i < nodes → is_even t 0 j i ≡ true → (rounds_upto t m i).first j ≡ (if t.full j then Good (item j) else Bad 3)
  first_even j i low_j low_i even =
      let clean : u.change 0 j i ≡ None = sym (agree.change 0 j i (omega arith)) ∙ (even_parts t 0 j i even).clean in
      first_is i j low_i low_j
      ∙ elim (cases_Bool (t.full j)) [
        | inl f ↦ first_full grammar P form first tells sys x.period m fit j i (run.full j low_j ∙ f) clean ∙ ap Good (run.told j low_j f) ∙ sym (cond-true (t.full j) _ _ f)
        | inr n ↦ first_idle grammar P form first tells sys x.period m fit j i (run.full j low_j ∙ n) clean ∙ sym (cond-false (t.full j) _ _ n)
      ]

  relay_even : (k j i : ℕ) → suc k ≤ m → j < nodes → i < nodes → is_even t (suc k) j i ≡ true
      → (rounds_upto t m i).relay (suc k) j ≡ (if t.full j then Good (looked_up (paths_of (t.members i) (suc k) j) (entries (suc k) j)) else Bad 3)
  relay_even k j i low low_j low_i even =
      let parts = even_parts t (suc k) j i even in
      let clean : u.change (suc k) j i ≡ None = sym (agree.change (suc k) j i low) ∙ parts.clean in
      relay_same (suc k) i j low_i low_j
      ∙ elim (cases_Bool (t.full j)) [
        | inl f ↦
            relay_full grammar P form first tells sys x.period m fit k j i low (run.full j low_j ∙ f) (run.members j low_j ∙ same_members parts f ∙ sym (run.members i low_i)) clean
            ∙ ap₂ (λ (ms : List ℕ) (es : List (Wrapped V)). Good (looked_up (paths_of ms (suc k) j) es)) (run.members i low_i) (u_entries k j low low_j)
            ∙ sym (cond-true (t.full j) _ _ f)
        | inr n ↦ relay_idle grammar P form first tells sys x.period m fit k j i low (run.full j low_j ∙ n) clean ∙ sym (cond-false (t.full j) _ _ n)
      ]

  pub even_kind : (r j i : ℕ) → r ≤ m → j < nodes → i < nodes → is_even t r j i ≡ true → frame_kind (rounds_upto t m i) r j ≡ (if t.full j then None else Some 3)
  even_kind zero j i low low_j low_i even = ap bad_kind (first_even j i low_j low_i even) ∙ kind_of (t.full j) where
    kind_of : (b : Bool) → bad_kind (if b then Good (item j) else Bad 3) ≡ (if b then None else Some 3)
    kind_of true = refl
    kind_of false = refl
  even_kind (suc k) j i low low_j low_i even = relay_kind_is (rounds_upto t m i) k j ∙ ap bad_kind (relay_even k j i low low_j low_i even) ∙ kind_of (t.full j) where
    kind_of : (b : Bool) → bad_kind (if b then Good (looked_up (paths_of (t.members i) (suc k) j) (entries (suc k) j)) else Bad 3) ≡ (if b then None else Some 3)
    kind_of true = refl
    kind_of false = refl

  -- what is heard of them
  pub heard_even : (j i : ℕ) → j < nodes → i < nodes → is_even t 0 j i ≡ true → heard (rounds_upto t m i) (j ∷ []) ≡ (if t.full j then Plain (item j) else Fault 0)
  heard_even j i low_j low_i even = ap said (first_even j i low_j low_i even) ∙ said_of (t.full j) where
    said_of : (b : Bool) → said (if b then Good (item j) else Bad 3) ≡ (if b then Plain (item j) else Fault 0)
    said_of true = refl
    said_of false = refl

  -- of a path with a last node, by that node's frame
  pub heard_of : (i q k : ℕ) (front : List ℕ) → length front ≡ suc k → heard (rounds_upto t m i) (front ++ q ∷ []) ≡ entry ((rounds_upto t m i).relay (suc k) q) front
  heard_of i q k front long =
      heard_push (rounds_upto t m i) front q (omega (arith, long)) ∙ ap (λ (n : ℕ). entry ((rounds_upto t m i).relay n q) front) long

  abbrev own_of : ℕ → ℕ → List ℕ → Wrapped V
  own_of i q front = passed_on (heard (rounds_upto t m q)) (source (t.full q) (t.members q) (t.members i) q front)

  own_is : (i q k : ℕ) (front : List ℕ) → length front ≡ suc k → t.full q ≡ true → own_of i q front ≡ slice_index_or (entries (suc k) q) (place_in (paths_of (t.members i) (suc k) q) front) (Fault 0)
  own_is i q k front long f =
      ap (passed_on (heard (rounds_upto t m q))) (cond-true (t.full q) _ _ f)
      ∙ ap (λ (n : ℕ). passed_on (heard (rounds_upto t m q)) (slice_get (paths_of (t.members q) n q) (place_in (paths_of (t.members i) n q) front))) long
      ∙ sym (passed_at (heard (rounds_upto t m q)) (paths_of (t.members q) (suc k) q) (place_in (paths_of (t.members i) (suc k) q) front))

  own_idle : (i q : ℕ) (front : List ℕ) → t.full q ≡ false → own_of i q front ≡ Fault 0
  own_idle i q front n = ap (passed_on (heard (rounds_upto t m q))) (cond-false (t.full q) _ _ n)

  pub heard_relay_even : (i q k : ℕ) (front : List ℕ) → length front ≡ suc k → suc k ≤ m → q < nodes → i < nodes → is_even t (suc k) q i ≡ true
      → place_in (paths_of (t.members i) (suc k) q) front < length (paths_of (t.members i) (suc k) q)
      → heard (rounds_upto t m i) (front ++ q ∷ []) ≡ own_of i q front
  heard_relay_even i q k front long low low_q low_i even placed =
      heard_of i q k front long ∙ ap (λ a. entry a front) (relay_even k q i low low_q low_i even)
      ∙ elim (cases_Bool (t.full q)) [
        | inl f ↦
            ap (λ a. entry a front) (cond-true (t.full q) _ _ f)
            ∙ looked_up_place (paths_of (t.members i) (suc k) q) (entries (suc k) q) front placed
            ∙ sym (own_is i q k front long f)
        | inr n ↦ ap (λ a. entry a front) (cond-false (t.full q) _ _ n) ∙ sym (own_idle i q front n)
      ]

  -- a good relay frame
  abbrev pub come : ℕ → ℕ → ℕ → Content → Arrival (List (Wrapped V))
  come r j i c = arrives form.relay_in (t.change r j i) (t.expect r j (t.members i)) (t.expect r j (t.members i)) c

  come_long : (k j i : ℕ) → suc k ≤ m → i < nodes → (c : Content) (xs : List (Wrapped V)) → come (suc k) j i c ≡ Good xs → length xs ≡ length (paths_of (t.members i) (suc k) j)
  come_long k j i low low_i c xs good =
      good_long grammar form cells in_range made P first tells sys x.period m fit k j i low (t.change (suc k) j i) c xs
      (ap (λ (e : Expectation). arrives form.relay_in (t.change (suc k) j i) e e c) (sym (agree.expect (suc k) j (t.members i) low ∙ ap (u.expect (suc k) j) (agree.members i low_i))) ∙ good)
      ∙ ap (λ (ms : List ℕ). length (paths_of ms (suc k) j)) (run.members i low_i)

  good_entry : (paths : List (List ℕ)) (front : List ℕ) (a : Arrival (List (Wrapped V))) (result : Wrapped V) → place_in paths front < length paths → bad_kind a ≡ None
      → ((xs : List (Wrapped V)) → a ≡ Good xs → length xs ≡ length paths)
      → ((xs : List (Wrapped V)) → a ≡ Good xs → place_in paths front < length xs → result ≡ slice_index_or xs (place_in paths front) (Fault 0))
      → entry (with_entries paths a) front ≡ result
  good_entry paths front (Bad k) result placed none long is = cc
  good_entry paths front (Good xs) result placed none long is = looked_up_place paths xs front placed ∙ sym (is xs refl (omega (arith, long xs refl)))

  pub heard_relay_good : (i q k : ℕ) (front : List ℕ) → length front ≡ suc k → suc k ≤ m → q < nodes → i < nodes → frame_kind (rounds_upto t m i) (suc k) q ≡ None
      → place_in (paths_of (t.members i) (suc k) q) front < length (paths_of (t.members i) (suc k) q) → (result : Wrapped V)
      → ((xs : List (Wrapped V)) → come (suc k) q i (content_of (suc k) q) ≡ Good xs → place_in (paths_of (t.members i) (suc k) q) front < length xs
      → result ≡ slice_index_or xs (place_in (paths_of (t.members i) (suc k) q) front) (Fault 0))
      → heard (rounds_upto t m i) (front ++ q ∷ []) ≡ result
  heard_relay_good i q k front long low low_q low_i none placed result is =
      heard_of i q k front long ∙ ap (λ a. entry a front) (relay_is k q i low)
      ∙ good_entry (paths_of (t.members i) (suc k) q) front (come (suc k) q i (content_of (suc k) q)) result placed
      (sym (bad_with (paths_of (t.members i) (suc k) q) _) ∙ sym (ap bad_kind (relay_is k q i low)) ∙ sym (relay_kind_is (rounds_upto t m i) k q) ∙ none)
      (λ xs good. come_long k q i low low_i (content_of (suc k) q) xs good) is

  -- where its sender means this at each place
  pub has_own : (i q k : ℕ) (front : List ℕ) → length front ≡ suc k → suc k ≤ m → q < nodes
      → HasOwn form (t.expect (suc k) q (t.members i)) (place_in (paths_of (t.members i) (suc k) q) front) (own_of i q front) (content_of (suc k) q)
  has_own i q k front long low low_q =
      elim (cases_Bool (t.full q)) [
        | inl f ↦
            inl (entries (suc k) q, cond-true (t.full q) _ _ f, subst (IsSent (t.expect (suc k) q (t.members i))) (sym (cond-true (t.full q) (form.relay (entries (suc k) q)) Cold f)) (sent k q i low low_q), own_is i q k front long f)
        | inr n ↦ inr (cond-false (t.full q) _ _ n)
      ]

  -- a frame that isn't good says nothing
  bad_entry : (a : Arrival (List ℕ → Wrapped V)) (front : List ℕ) (n : ℕ) → bad_kind a ≡ Some n → entry a front ≡ Fault 0
  bad_entry (Bad k) front n h = refl
  bad_entry (Good f) front n h = cc

  bad_said : (a : Arrival V) (n : ℕ) → bad_kind a ≡ Some n → said a ≡ Fault 0
  bad_said (Bad k) n h = refl
  bad_said (Good v) n h = cc

  pub heard_first_bad : (i q n : ℕ) → frame_kind (rounds_upto t m i) 0 q ≡ Some n → heard (rounds_upto t m i) (q ∷ []) ≡ Fault 0
  heard_first_bad i q n h = bad_said ((rounds_upto t m i).first q) n h

  pub heard_relay_bad : (i q k n : ℕ) (front : List ℕ) → length front ≡ suc k → frame_kind (rounds_upto t m i) (suc k) q ≡ Some n → heard (rounds_upto t m i) (front ++ q ∷ []) ≡ Fault 0
  heard_relay_bad i q k n front long h = heard_of i q k front long ∙ bad_entry ((rounds_upto t m i).relay (suc k) q) front n (sym (relay_kind_is (rounds_upto t m i) k q) ∙ h)
