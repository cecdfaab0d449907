-- What each node has of the others' values: of frames that no line touches, and of those that one does.
use Rattle.std.proofs.Common.{ℕ, ◌≡◌, ◌≢◌, ◌<◌, Bool, true, false, ◌||◌, ◌==◌, List, [], map, length, refl, sym, ap, ap₂, subst, ◌∙◌, inl, inr, arith, eq-eqb, ne_eqb, Option, None, Some, ℤ}
use Rattle.std.specs.Prelude.{if◌then◌else◌}
use Rattle.std.specs.List.{list_all}
use Rattle.std.proofs.lemmas.Bool.{cases_Bool, cases_eq, cond-true, cond-false}
use Rattle.node_grid.specs.Kinds.{malformed, cold}
use Rattle.node_grid.specs.NodeSet.{has_id, ids_below}
use Rattle.node_grid.specs.NodeSetLaws.{has-range}
use Rattle.node_grid.specs.ListLaws.{all_at}
use Rattle.frames.specs.Content.{Content, Expectation}
use Rattle.frames.specs.Content.Content.{Data, Cold}
use Rattle.frames.specs.Spelling.{IsInRange}
use Rattle.fault_classes.specs.Change.{Change, is_untouched}
use Rattle.fault_classes.specs.ChangeLaws.{untouched_is}
use Rattle.fault_classes.specs.Line.{effect_at}
use Rattle.fault_classes.specs.Plan.{Plan}
use Rattle.fault_link.specs.Arrival.{delivered_of}
use Rattle.error_reports.specs.Notes.{is_kind}
use Rattle.protocol.specs.Arrival.{Arrival, is_bad, is_good, values_in}
use Rattle.protocol.specs.Arrival.Arrival.{Bad, Good}
use Rattle.protocol.specs.Configured.{setting_of}
use Rattle.protocol.specs.Talk.{arrives, frame_by}
use Rattle.protocol.specs.View.{Received, own_in, value_of, value_in, value_from}
use Rattle.protocol.specs.Facts.{value_there}
use Rattle.touched_frames.specs.Arrived.{part_of}
use Rattle.touched_frames.proofs.Effects.{parts_law}
use Rattle.told_values.specs.Slot.{DataView, IsDataSlot, own_of, own_told, said, expects, change_to, values_at, Hears, HearAlike}
use Rattle.told_values.specs.Heard.{untouched_kind}
use Rattle.told_values.proofs.Expected.{expected_in, expectation_is, comes, comes_malformed, comes_cold}

-- ---- frames of which a line replaces bytes, or that come otherwise than they should

pub of_whole : (change : Option Change) (sender receiver : Expectation) (c : Content) (a : Arrival Content) → arrives Some change sender receiver c ≡ a → arrives values_in change sender receiver c ≡ part_of values_in a
of_whole change sender receiver c a is = parts_law values_in receiver (delivered_of change (frame_by sender c)) ∙ ap (part_of values_in) is

-- the line of a link, where plan, period and slot are the same
pub effect_by : {a b : Plan} {p q s t : ℕ} (j i : ℕ) → a ≡ b → p ≡ q → s ≡ t → effect_at a.lines p s j i ≡ effect_at b.lines q t j i
effect_by {a} {b} {p} {q} {s} {t} j i plan period slot =
    ap (λ (x : Plan). effect_at x.lines p s j i) plan ∙ ap (λ (n : ℕ). effect_at b.lines n s j i) period ∙ ap (λ (n : ℕ). effect_at b.lines q n j i) slot

-- ---- tests of all nodes

-- what a test of all others says of one
one_of : (f : ℕ → Bool) (n i j : ℕ) → list_all (λ k. k == i || f k) (ids_below n) ≡ true → j < n → j ≢ i → f j ≡ true
one_of f n i j all low ne =
    sym (ap (λ (b : Bool). b || f j) (ne_eqb j i ne)) ∙ all_at (λ k. k == i || f k) (ids_below n) j all (has-range 0 n j (omega arith) (omega arith))

module _ {n : ℕ} (d : DataView n) where
  pub untouched_to : (i : ℕ) → list_all (λ j. j == i || is_untouched (change_to d j i)) (ids_below d.config.nodes) ≡ true → (j : ℕ) → j < d.config.nodes → j ≢ i → change_to d j i ≡ None
  untouched_to i all j low ne = untouched_is (change_to d j i) (one_of (λ k. is_untouched (change_to d k i)) d.config.nodes i j all low ne)

  pub untouched_of : IsDataSlot d → (j i : ℕ) → j < d.config.nodes → i < d.config.nodes → j ≢ i → has_id d.touched j ≡ false → change_to d j i ≡ None
  untouched_of slot j i low_j low_i ne off =
      let all : list_all (λ k. k == j || is_untouched (change_to d j k)) (ids_below d.plan.nodes) ≡ true = slot.touched j low_j off in
      let room : i < d.plan.nodes = (let e = slot.plan_nodes in omega arith) in
      untouched_is (change_to d j i) (one_of (λ k. is_untouched (change_to d j k)) d.plan.nodes j i all room (λ e. ne (sym e)))

  -- ---- what is expected

  expects_is : (j i : ℕ) → expects d j i ≡ expected_in (setting_of d.config) d.period j [] (length (d.due i))
  expects_is j i = expectation_is (setting_of d.config) d.period j (length (d.due i))

  values_is : (j i : ℕ) → values_at d j i
      ≡ arrives values_in (change_to d j i) (expected_in (setting_of d.config) d.period j [] (length (d.due j))) (expected_in (setting_of d.config) d.period j [] (length (d.due i))) (said d j)
  values_is j i = ap₂ (λ (a b : Expectation). arrives values_in (change_to d j i) a b (said d j)) (expects_is j j) (expects_is j i)

  -- ---- a frame that no line touches

  module _ (j i : ℕ) (range : IsInRange (expects d j j) (said d j)) (clean : change_to d j i ≡ None) where
    comes_as : (c : Content) → said d j ≡ c → values_at d j i
        ≡ arrives values_in None (expected_in (setting_of d.config) d.period j [] (length (d.due j))) (expected_in (setting_of d.config) d.period j [] (length (d.due i))) c
    comes_as c says =
        values_is j i
        ∙ ap₂ (λ (l : Option Change) (x : Content). arrives values_in l (expected_in (setting_of d.config) d.period j [] (length (d.due j))) (expected_in (setting_of d.config) d.period j [] (length (d.due i))) x) clean says

    says_values : has_id d.full j ≡ true → said d j ≡ Data (map (own_in (own_of d j)) (d.due j))
    says_values full = cond-true (has_id d.full j) (Data (map (own_in (own_of d j)) (d.due j))) Cold full

    in_range_as : (c : Content) → said d j ≡ c → IsInRange (expected_in (setting_of d.config) d.period j [] (length (d.due j))) c
    in_range_as c says = subst (IsInRange (expected_in (setting_of d.config) d.period j [] (length (d.due j)))) says (subst (λ (e : Expectation). IsInRange e (said d j)) (expects_is j j) range)

    pub full_comes : has_id d.full j ≡ true → length (d.due j) ≡ length (d.due i) → values_at d j i ≡ Good (map (own_in (own_of d j)) (d.due j))
    full_comes full same =
        comes_as _ (says_values full)
        ∙ comes (setting_of d.config) d.period j (length (d.due j)) (length (d.due i)) (map (own_in (own_of d j)) (d.due j)) (in_range_as _ (says_values full)) same

    full_fails : has_id d.full j ≡ true → length (d.due j) ≢ length (d.due i) → values_at d j i ≡ Bad malformed
    full_fails full ne =
        comes_as _ (says_values full)
        ∙ comes_malformed (setting_of d.config) d.period j (length (d.due j)) (length (d.due i)) (map (own_in (own_of d j)) (d.due j)) (in_range_as _ (says_values full)) ne

    idle_fails : has_id d.full j ≡ false → values_at d j i ≡ Bad cold
    idle_fails idle =
        comes_as Cold (cond-false (has_id d.full j) (Data (map (own_in (own_of d j)) (d.due j))) Cold idle)
        ∙ comes_cold (setting_of d.config) d.period j (length (d.due j)) (length (d.due i))

  -- ---- its kind of error

  kind_full : (j i : ℕ) → has_id d.full j ≡ true → untouched_kind d j i ≡ (if length (d.due j) == length (d.due i) then None else Some malformed)
  kind_full j i full = cond-true (has_id d.full j) (if length (d.due j) == length (d.due i) then None else Some malformed) (Some cold) full

  kind_idle : (j i : ℕ) → has_id d.full j ≡ false → untouched_kind d j i ≡ Some cold
  kind_idle j i idle = cond-false (has_id d.full j) (if length (d.due j) == length (d.due i) then None else Some malformed) (Some cold) idle

  kind_same : (j i : ℕ) → has_id d.full j ≡ true → length (d.due j) ≡ length (d.due i) → untouched_kind d j i ≡ None
  kind_same j i full same = kind_full j i full ∙ cond-true (length (d.due j) == length (d.due i)) None (Some malformed) (eq-eqb (length (d.due j)) (length (d.due i)) same)

  kind_other : (j i : ℕ) → has_id d.full j ≡ true → length (d.due j) ≢ length (d.due i) → untouched_kind d j i ≡ Some malformed
  kind_other j i full ne = kind_full j i full ∙ cond-false (length (d.due j) == length (d.due i)) None (Some malformed) (ne_eqb (length (d.due j)) (length (d.due i)) ne)

  -- there is none where the sender is Full and has as many due channels
  pub when_good : (j i : ℕ) → untouched_kind d j i ≡ None → (has_id d.full j ≡ true) × (length (d.due j) ≡ length (d.due i))
  when_good j i h = elim (cases_Bool (has_id d.full j)) [
    | inl full ↦ elim (cases_eq (length (d.due j)) (length (d.due i))) [
      | inl same ↦ (full, same)
      | inr ne ↦ let z : Some malformed ≡ None = sym (kind_other j i full ne) ∙ h in absurd (let w : ⊥ = cc in w)
    ]
    | inr idle ↦ let z : Some cold ≡ None = sym (kind_idle j i idle) ∙ h in absurd (let w : ⊥ = cc in w)
  ]

  some_same : (a b : ℕ) → Some a ≡ Some b → a ≡ b
  some_same a b h = cc

  none_some : (k : ℕ) → None ≡ Some k → ⊥
  none_some k h = cc

  -- and else it is found
  pub when_bad : (j i k : ℕ) → IsInRange (expects d j j) (said d j) → change_to d j i ≡ None → untouched_kind d j i ≡ Some k → values_at d j i ≡ Bad k
  when_bad j i k range clean h = elim (cases_Bool (has_id d.full j)) [
    | inl full ↦ elim (cases_eq (length (d.due j)) (length (d.due i))) [
      | inl same ↦ absurd (none_some k (sym (kind_same j i full same) ∙ h))
      | inr ne ↦ full_fails j i range clean full ne ∙ ap Bad (some_same malformed k (sym (kind_other j i full ne) ∙ h))
    ]
    | inr idle ↦ idle_fails j i range clean idle ∙ ap Bad (some_same cold k (sym (kind_idle j i idle) ∙ h))
  ]

  pub kind_is : (j i : ℕ) (x : Received) → Hears d i x → j < d.config.nodes → j ≢ i → change_to d j i ≡ None → (k : ℕ) → is_kind (untouched_kind d j i) k ≡ is_bad (x.values j) k
  kind_is j i x hears low ne clean k = go (untouched_kind d j i) refl ∙ sym (ap (λ (a : Arrival (List ℤ)). is_bad a k) (hears.values j low ne)) where
    go : (o : Option ℕ) → untouched_kind d j i ≡ o → is_kind (untouched_kind d j i) k ≡ is_bad (values_at d j i) k
    go None h =
        let g = when_good j i h in
        ap (λ (o : Option ℕ). is_kind o k) h ∙ sym (ap (λ (a : Arrival (List ℤ)). is_bad a k) (full_comes j i (hears.in_range j low) clean g.0 g.1))
    go (Some e) h = ap (λ (o : Option ℕ). is_kind o k) h ∙ sym (ap (λ (a : Arrival (List ℤ)). is_bad a k) (when_bad j i e (hears.in_range j low) clean h))

  -- ---- where no line touches a frame to a node

  -- what stands where there is no error
  abbrev unless : Option ℕ → Option ℤ → Option ℤ
  unless None v = v
  unless (Some k) v = None

  -- the value of node q that a node with these due channels has
  abbrev plain_value : List ℕ → ℕ → ℕ → Option ℤ
  plain_value due q c =
      unless (if has_id d.full q then (if length (d.due q) == length due then None else Some malformed) else Some cold) (Some (value_of due (map (own_in (own_of d q)) (d.due q)) c))

  plain_other : (i q c : ℕ) (x : Received) → Hears d i x → q < d.config.nodes → q ≢ i → change_to d q i ≡ None → value_in (d.due i) (x.values q) c ≡ plain_value (d.due i) q c
  plain_other i q c x hears low ne clean = ap (λ (a : Arrival (List ℤ)). value_in (d.due i) a c) (hears.values q low ne) ∙ go (untouched_kind d q i) refl where
    go : (o : Option ℕ) → untouched_kind d q i ≡ o → value_in (d.due i) (values_at d q i) c ≡ plain_value (d.due i) q c
    go None h =
        let g = when_good q i h in
        ap (λ (a : Arrival (List ℤ)). value_in (d.due i) a c) (full_comes q i (hears.in_range q low) clean g.0 g.1)
        ∙ sym (ap (λ (o : Option ℕ). unless o (Some (value_of (d.due i) (map (own_in (own_of d q)) (d.due q)) c))) h)
    go (Some k) h =
        ap (λ (a : Arrival (List ℤ)). value_in (d.due i) a c) (when_bad q i k (hears.in_range q low) clean h)
        ∙ sym (ap (λ (o : Option ℕ). unless o (Some (value_of (d.due i) (map (own_in (own_of d q)) (d.due q)) c))) h)

  plain_own : (i c : ℕ) → has_id (d.due i) c ≡ true → (if has_id d.full i then Some (own_in (own_of d i) c) else None) ≡ plain_value (d.due i) i c
  plain_own i c on = elim (cases_Bool (has_id d.full i)) [
    | inl full ↦
        cond-true (has_id d.full i) (Some (own_in (own_of d i) c)) None full ∙ ap Some (sym (value_there (own_in (own_of d i)) (d.due i) c on))
        ∙ sym (ap (λ (o : Option ℕ). unless o (Some (value_of (d.due i) (map (own_in (own_of d i)) (d.due i)) c))) (kind_same i i full refl))
    | inr idle ↦
        cond-false (has_id d.full i) (Some (own_in (own_of d i) c)) None idle
        ∙ sym (ap (λ (o : Option ℕ). unless o (Some (value_of (d.due i) (map (own_in (own_of d i)) (d.due i)) c))) (kind_idle i i idle))
  ]

  abbrev IsUntouched : ℕ → Type 0
  IsUntouched i = (j : ℕ) → j < d.config.nodes → j ≢ i → change_to d j i ≡ None

  from_plain : (i : ℕ) (x : Received) → Hears d i x → IsUntouched i → (q c : ℕ) → q < d.config.nodes → has_id (d.due i) c ≡ true → value_from i (has_id d.full i) (d.due i) (own_of d i) x c q ≡ plain_value (d.due i) q c
  from_plain i x hears clean q c low on = elim (cases_eq q i) [
    | inl e ↦
        cond-true (q == i) (if has_id d.full i then Some (own_in (own_of d i) c) else None) (value_in (d.due i) (x.values q) c) (eq-eqb q i e)
        ∙ plain_own i c on ∙ ap (λ (k : ℕ). plain_value (d.due i) k c) (sym e)
    | inr ne ↦
        cond-false (q == i) (if has_id d.full i then Some (own_in (own_of d i) c) else None) (value_in (d.due i) (x.values q) c) (ne_eqb q i ne)
        ∙ plain_other i q c x hears low ne (clean q low ne)
  ]

  pub heard_alike : (i j : ℕ) → d.due i ≡ d.due j → IsUntouched i → IsUntouched j → HearAlike d i j
  heard_alike i j same clean_i clean_j = record {
    due = sym same;
    told = λ x y told hears_i hears_j is q c low on.
        let on_i : has_id (d.due i) c ≡ true = ap (λ (ds : List ℕ). has_id ds c) same ∙ on in
        is q c low on_i ∙ from_plain i x hears_i clean_i q c low on_i
        ∙ ap (λ (ds : List ℕ). plain_value ds q c) same
        ∙ sym (from_plain j y hears_j clean_j q c low on);
  }

  -- and all are Full and have as many due channels
  pub heard_well : (i : ℕ) (x : Received) → Hears d i x → IsUntouched i → (j : ℕ) → j < d.config.nodes → j ≢ i → has_id d.full j ≡ true → length (d.due j) ≡ length (d.due i) → is_good (x.values j) ≡ true
  heard_well i x hears clean j low ne full same = ap (λ (a : Arrival (List ℤ)). is_good a) (hears.values j low ne ∙ full_comes j i (hears.in_range j low) (clean j low ne) full same)

  -- a node's own value of a due channel, and that of another node
  pub own_from : (i c : ℕ) (x : Received) → value_from i (has_id d.full i) (d.due i) (own_of d i) x c i ≡ (if has_id d.full i then Some (own_in (own_of d i) c) else None)
  own_from i c x = cond-true (i == i) (if has_id d.full i then Some (own_in (own_of d i) c) else None) (value_in (d.due i) (x.values i) c) (eq-eqb i i refl)

  pub other_from : (i q c : ℕ) (x : Received) → Hears d i x → q < d.config.nodes → q ≢ i → value_from i (has_id d.full i) (d.due i) (own_of d i) x c q ≡ value_in (d.due i) (values_at d q i) c
  other_from i q c x hears low ne =
      cond-false (q == i) (if has_id d.full i then Some (own_in (own_of d i) c) else None) (value_in (d.due i) (x.values q) c) (ne_eqb q i ne)
      ∙ ap (λ (a : Arrival (List ℤ)). value_in (d.due i) a c) (hears.values q low ne)

  -- where the same channels are due to a Full sender, a node has its own values of them
  pub other_plain : (i q c : ℕ) (x : Received) → Hears d i x → q < d.config.nodes → q ≢ i → change_to d q i ≡ None → (has_id d.full q ≡ true → d.due q ≡ d.due i) → has_id (d.due i) c ≡ true
      → value_from i (has_id d.full i) (d.due i) (own_of d i) x c q ≡ own_told d q c
  other_plain i q c x hears low ne clean alike on = other_from i q c x hears low ne ∙ elim (cases_Bool (has_id d.full q)) [
    | inl full ↦
        let same : d.due q ≡ d.due i = alike full in
        ap (λ (a : Arrival (List ℤ)). value_in (d.due i) a c) (full_comes q i (hears.in_range q low) clean full (ap (λ (ds : List ℕ). length ds) same))
        ∙ ap (λ (ds : List ℕ). Some (value_of (d.due i) (map (own_in (own_of d q)) ds) c)) same
        ∙ ap Some (value_there (own_in (own_of d q)) (d.due i) c on)
        ∙ sym (cond-true (has_id d.full q) (Some (own_in (own_of d q) c)) None full)
    | inr idle ↦
        ap (λ (a : Arrival (List ℤ)). value_in (d.due i) a c) (idle_fails q i (hears.in_range q low) clean idle)
        ∙ sym (cond-false (has_id d.full q) (Some (own_in (own_of d q) c)) None idle)
  ]
