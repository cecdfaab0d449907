-- How long a frame can be.
use Rattle.std.proofs.Common.{◌≡◌, ℕ, zero, suc, ◌+◌, ◌-◌, ◌*◌, ◌^◌, ◌<◌, ◌≤◌, max, Bool, true, false, List, length, replicate, refl, sym, ap, ◌∙◌, arith, subst, inl, inr, lit<, lit≤, ◌⊎◌}
use Rattle.std.specs.Prelude.{◌==◌, pos, if◌then◌else◌}
use Rattle.std.specs.List.{All, flat_map, filter}
use Rattle.std.proofs.lemmas.Bool.{cases_lt, eq-eqb, ne_eqb, le-leb, lt-leb}
use Rattle.std.proofs.Math.Nat.{mul_comm}
use Rattle.std.proofs.lemmas.Nat.{mul-le}
use Rattle.std.proofs.lemmas.List.{length-replicate, drop-replicate}
use Rattle.std.proofs.lemmas.List.Elements.{All-replicate}
use Rattle.std.proofs.lemmas.List.FromFn.{length-range_with_len}
use Rattle.node_grid.specs.NodeSet.{IsIdSet, has_id, ids_below}
use Rattle.node_grid.specs.Version.{mask_bound}
use Rattle.node_grid.specs.NodeSetLaws.{length-ids, filter_every, IsIdSet-filter}
use Rattle.omh_paths.specs.declared.wrapped.Wrapped.TheVariants.{Fault}
use Rattle.omh_paths.specs.Paths.{path_count}
use Rattle.omh_paths.specs.Facts.{more_paths}
use Rattle.frames.specs.Content.{Expectation, Content, State, Done0, DoneRelay, Data, Report0, ReportRelay, Cold, kind, kind_in, round_in, entries_due, IsClaim, IsRow, IsValue, IsEntry, IsSized}
use Rattle.frames.specs.Spelling.{claim_spelling, relayed_row_spelling, value_spelling, body_spelling, spelling, head_of, IsInRange}
use Rattle.frames.specs.Reading.{content_claim, relayed_row_in, content_value}
use Rattle.frames.specs.Laws.{IsLaidOut}
use Rattle.frames.specs.Bound.{most_entries, HasSizes, IsGreatest}
use Rattle.frames.specs.PieceLaws.{length_spelt}
use Rattle.frames.specs.EntryLaws.{claim_format, value_format, row_long, relayed_row_format}
use Rattle.frames.specs.ReadingLaws.{body_length, is_short, round_within}

-- ---- more members and longer paths

some_paths : (k r : ℕ) → r ≤ k → 0 < path_count k r
some_paths k zero h = lit< tt
some_paths k (suc r) h =
    let less : 1 ≤ path_count (k - 1) r = omega (arith, some_paths (k - 1) r (omega arith)) in
    let p : 1 * 1 ≤ k * path_count (k - 1) r = mul-le 1 1 k (path_count (k - 1) r) (omega arith) less in
    omega arith

longer_paths : (k r s : ℕ) → r ≤ s → s ≤ k → path_count k r ≤ path_count k s
longer_paths k zero s h l = omega (arith, some_paths k s l)
longer_paths k (suc r) zero h l = absurd (omega arith)
longer_paths k (suc r) (suc s) h l = mul-le k (path_count (k - 1) r) k (path_count (k - 1) s) (omega arith) (longer_paths (k - 1) r s (omega arith) (omega arith))

-- ---- relay slots

-- a relay slot is the first slot of no item
not_first : (m slot : ℕ) → (slot ≡ 0) ⊎ (slot ≡ 1) → (kind_in m slot ≡ 1) ⊎ (kind_in m slot ≡ 2)
not_first m slot (inl h) = inl (rw (eq-eqb slot 0 h) refl)
not_first m slot (inr h) = inr (rw (ne_eqb slot 0 (omega arith), eq-eqb slot 1 h) refl)

between : (m slot : ℕ) → m + 1 < slot → slot ≤ m + 3 → (kind_in m slot ≡ 4) ⊎ (kind_in m slot ≡ 5)
between m slot h l = elim (cases_lt (m + 2) slot) [
  | inl late ↦ inr (rw (ne_eqb slot 0 (omega arith), ne_eqb slot 1 (omega arith), lt-leb slot (m + 1) h, ne_eqb slot (m + 2) (omega arith), eq-eqb slot (m + 3) (omega arith)) refl)
  | inr early ↦ inl (rw (ne_eqb slot 0 (omega arith), ne_eqb slot 1 (omega arith), lt-leb slot (m + 1) h, eq-eqb slot (m + 2) (omega arith)) refl)
]

relay_round : (m slot k : ℕ) → k ≡ kind_in m slot → (k ≡ 3) ⊎ (k ≡ 6) → 0 < round_in m slot
relay_round m slot k h l = elim (cases_lt slot 2) [
  | inl first ↦ absurd (not_relay (not_first m slot (first_two slot first)))
  | inr some ↦ elim (cases_lt (m + 1) slot) [
    | inr early ↦ rw (le-leb slot (m + 1) early) (omega arith)
    | inl late ↦ elim (cases_lt (m + 3) slot) [
      | inl later ↦ rw (lt-leb slot (m + 1) late) (omega arith)
      | inr mid ↦ absurd (not_relay_mid (between m slot late mid))
    ]
  ]
]
  where
    first_two : (slot : ℕ) → slot < 2 → (slot ≡ 0) ⊎ (slot ≡ 1)
    first_two zero h = inl refl
    first_two (suc zero) h = inr refl
    first_two (suc (suc k)) h = absurd (omega arith)

    not_relay : (kind_in m slot ≡ 1) ⊎ (kind_in m slot ≡ 2) → ⊥
    not_relay x = omega arith

    not_relay_mid : (kind_in m slot ≡ 4) ⊎ (kind_in m slot ≡ 5) → ⊥
    not_relay_mid x = omega arith

relay_entries : (e : Expectation) (nodes m k : ℕ) → m < nodes → e.m ≡ m → IsIdSet nodes e.members → k ≡ kind_in e.m e.slot → (k ≡ 3) ⊎ (k ≡ 6) → entries_due e ≤ most_entries nodes m
relay_entries e nodes m k fewer mi ids p l =
    let low : 0 < round_in e.m e.slot = relay_round e.m e.slot k p l in
    let high : round_in e.m e.slot ≤ e.m = round_within e.m e.slot k p (omega arith) in
    let some : (m == 0) ≡ false = ne_eqb m 0 (omega arith) in
    let a : path_count (length e.members - 1) (round_in e.m e.slot) ≤ path_count (nodes - 1) (round_in e.m e.slot) = more_paths (length e.members - 1) (nodes - 1) (round_in e.m e.slot) (omega (arith, length-ids nodes e.members ids)) in
    let b : path_count (nodes - 1) (round_in e.m e.slot) ≤ path_count (nodes - 1) m = longer_paths (nodes - 1) (round_in e.m e.slot) m (omega arith) (omega arith) in
    rw some (chosen (has_id e.members e.sender) (path_count (length e.members - 1) (round_in e.m e.slot)) (path_count (nodes - 1) m) (omega arith))
  where
    chosen : (t : Bool) (x y : ℕ) → x ≤ y → (if t then x else 0) ≤ y
    chosen true x y h = h
    chosen false x y h = omega arith

-- ---- no body is longer

abbrev longest : ℕ → ℕ → ℕ → ℕ → ℕ
longest nodes m state_len due = max (max (max (most_entries nodes m * (1 + 2 * nodes)) (2 * nodes)) state_len) (8 * due)

placed_kind : (e : Expectation) (c : Content) → IsInRange e c → kind c < 7 → kind c ≡ kind_in e.m e.slot
placed_kind e c h l = elim h.placed [ inl p ↦ p | inr p ↦ absurd (omega arith) ]

no_longer : (nodes m state_len due : ℕ) → m < nodes → (e : Expectation) (c : Content) → HasSizes nodes m state_len due e → IsInRange e c → length (body_spelling e.nodes c) ≤ longest nodes m state_len due
no_longer nodes m state_len due fewer e (State bytes) s h = omega (arith, h.sized, s.state_len_is)
no_longer nodes m state_len due fewer e (Done0 task) s h = omega arith
no_longer nodes m state_len due fewer e (DoneRelay xs) s h =
    let n : entries_due e ≤ most_entries nodes m = relay_entries e nodes m 3 fewer s.m_is s.members (placed_kind e (DoneRelay xs) h (lit< tt)) (inl refl) in
    let l : length (flat_map claim_spelling xs) ≡ 2 * length xs = length_spelt 2 claim_spelling content_claim (IsEntry (IsClaim e.tasks) (round_in e.m e.slot)) (claim_format e.tasks (round_in e.m e.slot)) xs h.sized.1 in
    let p : length xs * 2 ≤ most_entries nodes m * (1 + 2 * nodes) = mul-le (length xs) 2 (most_entries nodes m) (1 + 2 * nodes) (omega (arith, h.sized.0)) (omega arith) in
    omega arith
no_longer nodes m state_len due fewer e (Data xs) s h =
    let l : length (flat_map value_spelling xs) ≡ 8 * length xs = length_spelt 8 value_spelling content_value IsValue value_format xs h.sized.1 in
    omega (arith, h.sized.0, s.few_due)
no_longer nodes m state_len due fewer e (Report0 masks) s h = omega (arith, row_long e.version e.capacity e.nodes masks h.sized, s.nodes_is)
no_longer nodes m state_len due fewer e (ReportRelay xs) s h =
    let r : ℕ = round_in e.m e.slot in
    let n : entries_due e ≤ most_entries nodes m = relay_entries e nodes m 6 fewer s.m_is s.members (placed_kind e (ReportRelay xs) h (lit< tt)) (inr refl) in
    let l : length (flat_map (relayed_row_spelling e.nodes) xs) ≡ (1 + 2 * e.nodes) * length xs =
    length_spelt (1 + 2 * e.nodes) (relayed_row_spelling e.nodes) (relayed_row_in e.capacity e.nodes) (IsEntry (IsRow e.version e.capacity e.nodes) r) (relayed_row_format e.version e.capacity e.nodes r) xs h.sized.1 in
    let p : (1 + 2 * e.nodes) * length xs ≤ (1 + 2 * nodes) * most_entries nodes m = mul-le (1 + 2 * e.nodes) (length xs) (1 + 2 * nodes) (most_entries nodes m) (omega (arith, s.nodes_is)) (omega (arith, h.sized.0)) in
    omega (arith, mul_comm (1 + 2 * nodes) (most_entries nodes m))
no_longer nodes m state_len due fewer e Cold s h = omega arith

-- ---- one is as long

abbrev expects : ℕ → ℕ → ℕ → ℕ → ℕ → Expectation
expects nodes m state_len due slot = record { version = 2; capacity = nodes; nodes = nodes; m = m; period = 0; slot = slot; sender = 0; members = ids_below nodes; state_len = state_len; tasks = 0; due = due }

IsIdSet-below : (n : ℕ) → IsIdSet n (ids_below n)
IsIdSet-below n =
    let all : filter (λ k. true) (ids_below n) ≡ ids_below n = filter_every (λ k. true) 0 n (λ k l u. refl) in
    let P : List ℕ → Type 0 = λ s. IsIdSet n s in
    subst P all (IsIdSet-filter (λ k. true) n)

first_has : (n : ℕ) → 0 < n → has_id (ids_below n) 0 ≡ true
first_has zero h = absurd (omega arith)
first_has (suc n) h = refl

abbrev IsReached : ℕ → ℕ → ℕ → ℕ → ℕ → Type 0
IsReached nodes m state_len due n = (e : Expectation) × (c : Content) × HasSizes nodes m state_len due e × (e.sender < nodes) × IsInRange e c × (length (spelling e.nodes (head_of e) c) ≡ 14 + n)

record IsLimited (nodes m state_len due : ℕ) : Type 0 where
  pub nodes_few : nodes ≤ 16
  pub rounds : m ≤ 3
  pub fewer : m < nodes
  pub state_len_small : state_len < 2 ^ 16
  pub due_small : due < 2 ^ 8

reached_by : (nodes m state_len due slot n : ℕ) (c : Content) → IsLimited nodes m state_len due → kind c ≡ kind_in m slot → IsSized (expects nodes m state_len due slot) c → length (body_spelling nodes c) ≡ n → IsReached nodes m state_len due n
reached_by nodes m state_len due slot n c h k z l =
    let e : Expectation = expects nodes m state_len due slot in
    let ids : length (ids_below nodes) ≡ nodes = length-range_with_len 0 nodes in
    let laid : IsLaidOut e = record { nodes = h.nodes_few; rounds = h.rounds; members = omega (arith, h.nodes_few); state_len = h.state_len_small; due = h.due_small } in
    let sizes : HasSizes nodes m state_len due e = record { nodes_is = refl; m_is = refl; state_len_is = refl; few_due = omega arith; members = IsIdSet-below nodes } in
    let first : 0 < nodes = omega (arith, h.fewer) in
    (e, c, sizes, first, is_short e c laid k z, body_length nodes (head_of e) c ∙ ap (λ x. 14 + x) l)

state_reached : (nodes m state_len due : ℕ) → IsLimited nodes m state_len due → IsReached nodes m state_len due state_len
state_reached nodes m state_len due h = reached_by nodes m state_len due 0 state_len (State (replicate state_len 0)) h refl (length-replicate state_len 0) (length-replicate state_len 0)

values_reached : (nodes m state_len due : ℕ) → IsLimited nodes m state_len due → IsReached nodes m state_len due (8 * due)
values_reached nodes m state_len due h =
    let zero_fits : IsValue (pos 0) = record { low = record { le = tt }; high = record { le = tt } } in
    let all : All IsValue (replicate due (pos 0)) = All-replicate IsValue due (pos 0) zero_fits in
    reached_by nodes m state_len due (m + 2) (8 * due) (Data (replicate due (pos 0))) h
    (sym (rw (ne_eqb (m + 2) 0 (omega arith), ne_eqb (m + 2) 1 (omega arith), lt-leb (m + 2) (m + 1) (omega arith), eq-eqb (m + 2) (m + 2) refl) refl))
    (length-replicate due (pos 0), all)
    (length_spelt 8 value_spelling content_value IsValue value_format (replicate due (pos 0)) all ∙ ap (λ x. 8 * x) (length-replicate due (pos 0)))

row_reached : (nodes m state_len due : ℕ) → IsLimited nodes m state_len due → IsReached nodes m state_len due (2 * nodes)
row_reached nodes m state_len due h =
    let row : IsRow 2 nodes nodes (replicate nodes 0) = record { room = omega arith; whole = length-replicate nodes 0; within = All-replicate (λ mask. mask < mask_bound 2) nodes 0 (lit< tt); rest = drop-replicate nodes nodes 0 } in
    reached_by nodes m state_len due (m + 3) (2 * nodes) (Report0 (replicate nodes 0)) h
    (sym (rw (ne_eqb (m + 3) 0 (omega arith), ne_eqb (m + 3) 1 (omega arith), lt-leb (m + 3) (m + 1) (omega arith), ne_eqb (m + 3) (m + 2) (omega arith), eq-eqb (m + 3) (m + 3) refl) refl))
    row (row_long 2 nodes nodes (replicate nodes 0) row)

rows_reached : (nodes m state_len due : ℕ) → IsLimited nodes m state_len due → 0 < m → IsReached nodes m state_len due (most_entries nodes m * (1 + 2 * nodes))
rows_reached nodes m state_len due h some =
    let slot : ℕ = 2 * m + 3 in
    let round : round_in m slot ≡ m = rw (lt-leb slot (m + 1) (omega arith)) (omega arith) in
    let n : ℕ = most_entries nodes m in
    let e : Expectation = expects nodes m state_len due slot in
    let has : has_id (ids_below nodes) 0 ≡ true = first_has nodes (omega (arith, h.fewer)) in
    let ids : length (ids_below nodes) ≡ nodes = length-range_with_len 0 nodes in
    let isnt : (m == 0) ≡ false = ne_eqb m 0 (omega arith) in
    let due_is : entries_due e ≡ n = rw (has, isnt) (ap (λ k. path_count (k - 1) (round_in m slot)) ids ∙ ap (path_count (nodes - 1)) round) in
    let one : IsEntry (IsRow 2 nodes nodes) (round_in m slot) (Fault 1) = (lit< tt, omega arith) in
    let all : All (IsEntry (IsRow 2 nodes nodes) (round_in m slot)) (replicate n (Fault 1)) = All-replicate (IsEntry (IsRow 2 nodes nodes) (round_in m slot)) n (Fault 1) one in
    reached_by nodes m state_len due slot (n * (1 + 2 * nodes)) (ReportRelay (replicate n (Fault 1))) h
    (sym (rw (ne_eqb slot 0 (omega arith), ne_eqb slot 1 (omega arith), lt-leb slot (m + 1) (omega arith), ne_eqb slot (m + 2) (omega arith), ne_eqb slot (m + 3) (omega arith), le-leb slot (2 * m + 3) (omega arith)) refl))
    (length-replicate n (Fault 1) ∙ sym due_is, all)
    (length_spelt (1 + 2 * nodes) (relayed_row_spelling nodes) (relayed_row_in nodes nodes) (IsEntry (IsRow 2 nodes nodes) (round_in m slot)) (relayed_row_format 2 nodes nodes (round_in m slot)) (replicate n (Fault 1)) all
    ∙ ap (λ x. (1 + 2 * nodes) * x) (length-replicate n (Fault 1)) ∙ mul_comm (1 + 2 * nodes) n)

of_max : (P : ℕ → Type 0) (a b : ℕ) → P a → P b → P (max a b)
of_max P a b x y = elim (cases_lt a b) [
  | inl less ↦ let e : max a b ≡ b = omega arith in subst P (sym e) y
  | inr more ↦ let e : max a b ≡ a = omega arith in subst P (sym e) x
]

-- without relay rounds no relay frame is there, and a row is longer than nothing
rows_or_row : (nodes m state_len due : ℕ) → IsLimited nodes m state_len due → IsReached nodes m state_len due (max (most_entries nodes m * (1 + 2 * nodes)) (2 * nodes))
rows_or_row nodes zero state_len due h =
    let P : ℕ → Type 0 = IsReached nodes zero state_len due in
    let e : max (most_entries nodes zero * (1 + 2 * nodes)) (2 * nodes) ≡ 2 * nodes = omega arith in
    subst P (sym e) (row_reached nodes zero state_len due h)
rows_or_row nodes (suc m) state_len due h =
    of_max (IsReached nodes (suc m) state_len due) (most_entries nodes (suc m) * (1 + 2 * nodes)) (2 * nodes) (rows_reached nodes (suc m) state_len due h (omega arith)) (row_reached nodes (suc m) state_len due h)

-- ---- the longest frame of all

pub few_entries : (nodes m : ℕ) → nodes ≤ 16 → m ≤ 3 → m < nodes → most_entries nodes m ≤ 2730
few_entries nodes m a b c =
    let wider : path_count (nodes - 1) m ≤ path_count 15 m = more_paths (nodes - 1) 15 m (omega arith) in
    let longer : path_count 15 m ≤ path_count 15 3 = longer_paths 15 m 3 b (lit≤ tt) in
    let most : path_count 15 3 ≡ 2730 = refl in
    chosen (m == 0) (path_count (nodes - 1) m) (omega (arith, wider, longer, most))
  where
    chosen : (none : Bool) (n : ℕ) → n ≤ 2730 → (if none then 0 else n) ≤ 2730
    chosen true n h = omega arith
    chosen false n h = h

pub is_short_bound : (nodes m state_len due n : ℕ) → nodes ≤ 16 → m ≤ 3 → m < nodes → state_len < 2 ^ 16 → due < 2 ^ 8
    → n ≡ 14 + max (max (max (most_entries nodes m * (1 + 2 * nodes)) (2 * nodes)) state_len) (8 * due) → n ≤ 90104
is_short_bound nodes m state_len due n a b c d f g =
    let rows : most_entries nodes m * (1 + 2 * nodes) ≤ 2730 * 33 = mul-le (most_entries nodes m) (1 + 2 * nodes) 2730 33 (few_entries nodes m a b c) (omega arith) in
    omega arith

pub is_greatest : (nodes m state_len due n : ℕ) → nodes ≤ 16 → m ≤ 3 → m < nodes → state_len < 2 ^ 16 → due < 2 ^ 8
    → n ≡ 14 + max (max (max (most_entries nodes m * (1 + 2 * nodes)) (2 * nodes)) state_len) (8 * due) → IsGreatest nodes m state_len due n
is_greatest nodes m state_len due n a b c d f g =
    let h : IsLimited nodes m state_len due = record { nodes_few = a; rounds = b; fewer = c; state_len_small = d; due_small = f } in
    let P : ℕ → Type 0 = λ k. (e : Expectation) × (x : Content) × HasSizes nodes m state_len due e × (e.sender < nodes) × IsInRange e x × (length (spelling e.nodes (head_of e) x) ≡ k) in
    record {
      within = λ e x s r. omega (arith, no_longer nodes m state_len due c e x s r, body_length e.nodes (head_of e) x);
      reached = subst P (sym g) (of_max (IsReached nodes m state_len due) (max (max (most_entries nodes m * (1 + 2 * nodes)) (2 * nodes)) state_len) (8 * due)
          (of_max (IsReached nodes m state_len due) (max (most_entries nodes m * (1 + 2 * nodes)) (2 * nodes)) state_len (rows_or_row nodes m state_len due h) (state_reached nodes m state_len due h))
          (values_reached nodes m state_len due h));
    }
