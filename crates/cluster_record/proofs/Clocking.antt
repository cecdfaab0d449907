-- The clocks that are computed from what nodes recorded are those of the run.
use Rattle.std.proofs.Common.{ℕ, zero, suc, ◌≡◌, ◌<◌, ◌≤◌, Bool, true, false, not, ◌&&◌, List, map, length, Option, None, Some, ℤ, pos, ◌+ℤ◌, ◌-ℤ◌, refl, sym, ap, ap₂, subst, ◌∙◌, inl, inr, arith, eq-eqb, lt-ltb, le-ltb, nat_lt}
use Rattle.std.specs.Prelude.{All, ◌==◌, if◌then◌else◌, slice_get, option_map}
use Rattle.std.proofs.lemmas.Int.{ints}
use Rattle.std.proofs.lemmas.Bool.{cases_Bool, cases_lt, cond-true, cond-false, ltb-true}
use Rattle.std.proofs.lemmas.Option.{same_Some, slice_get_past}
use Rattle.std.proofs.lemmas.List.FromFn.{get_or-map-range_with_len, length-map-range_with_len}
use Rattle.node_grid.specs.Capacity.{IsCapacity}
use Rattle.node_grid.specs.NodeSet.{ids_below, has_id}
use Rattle.node_grid.specs.NodeSetLaws.{passes_where}
use Rattle.clock_skew.specs.Clock.{ClockView, IsClock, number_at, drift_at, error_at, lie_at, IsUpTo}
use Rattle.clock_skew.specs.Reading.{reading_at, IsOffset, AreSteady, start_of, read_by, moved}
use Rattle.agreed_state.specs.declared.config.Inputs.{Inputs}
use Rattle.agreed_state.specs.Agreed.{AgreedView}
use Rattle.protocol.specs.Arrival.{is_good}
use Rattle.protocol.specs.View.{Setting, Mode, Kept, Received, adopted_by, synced_by, through, joined, view_from}
use Rattle.protocol.specs.Cluster.{Cluster, begins, view}
use Rattle.protocol.specs.Run.{System, run, classes}
use Rattle.protocol.specs.Clocks.{AreClocks, readings_at, corrects, correction_at, corrected, offsets, offset_limit}
use Rattle.safety.specs.ClockLaws.{OffsetLaw}
use Rattle.node_steps.specs.Outcome.{Outcome}
use Rattle.node_steps.specs.Stages.{outcome_of}
use Rattle.scenario.specs.Scenario.{ScenarioView, system_of, IsScenario}
use Rattle.cluster_periods.specs.Record.{ClockShown, by_node, offsets_in, clock_in}
use Rattle.cluster_record.specs.Clocking.{corrects_by, correction_by, AreOthers, offsets_kept, offsets_before}
use Rattle.cluster_periods.specs.RecordLaws.{recorded}
use Rattle.cluster_periods.proofs.AllSlots.{map_ids, all_ids}

-- ---- whose frames were good, as nodes recorded it

synced_joined : (s : Setting) (i p : ℕ) (g : Inputs) (k : Kept) (x : Received) (o : Option AgreedView) → (joined s i p g k x o).sync ≡ synced_by s i x
unfolding through
synced_joined s i p g k x None = refl
synced_joined s i p g k x (Some a) = refl

synced_from : (s : Setting) (i p : ℕ) (g : Inputs) (k : Kept) (x : Received) (o : Option AgreedView) → (view_from s i p g k x o).sync ≡ synced_by s i x
unfolding through
synced_from s i p g k x (Some a) = refl
synced_from s i p g k x None = synced_joined s i p g k x (adopted_by s i x.sync)

not_itself : (a b : Bool) → a ≡ true → (not a && b) ≡ true → ⊥
not_itself true b e h = cc
not_itself false b e h = cc

-- a node isn't one of them itself
not_own : (cl : Cluster) (i p : ℕ) → has_id (view cl i p).sync i ≡ false
not_own cl i p = elim (cases_Bool (has_id (view cl i p).sync i)) [
  | inl own ↦
      let x : Received = cl.received i p in
      let is : has_id (synced_by cl.setting i x) i ≡ true = sym (ap (λ (ids : List ℕ). has_id ids i) (synced_from cl.setting i p (cl.inputs i p) (begins cl i p) x (begins cl i p).state)) ∙ own in
      absurd (not_itself (i == i) (is_good (x.sync i)) (eq-eqb i i refl) (passes_where (λ j. not (j == i) && is_good (x.sync j)) cl.setting.config.nodes i is))
  | inr other ↦ other
]

-- ---- records, by node

module _ (f : ℕ → Outcome) (nodes : ℕ) where
  unrecorded : (i : ℕ) → nodes ≤ i → slice_get (map f (ids_below nodes)) i ≡ None
  unrecorded i high = slice_get_past (map f (ids_below nodes)) i (omega (arith, length-map-range_with_len f 0 nodes))

none_is : (o : Outcome) → None ≡ Some o → ⊥
none_is o e = cc

-- a test that decides which of two numbers there is
if_alike : (b : Bool) (x y z : ℤ) → (b ≡ true → x ≡ y) → (if b then x else z) ≡ (if b then y else z)
if_alike true x y z h = h refl
if_alike false x y z h = refl

offsets_next : (cl : Cluster) (c : ClockView) (p i : ℕ) → offsets cl c (suc p) i ≡ corrected cl c (offsets cl c p) p i +ℤ drift_at c i p
unfolding offsets
offsets_next cl c p i = refl

offsets_first : (cl : Cluster) (c : ClockView) (i : ℕ) → offsets cl c zero i ≡ number_at c.start i
unfolding offsets
offsets_first cl c i = refl

module _ (sys : System) (c : ClockView) where
  abbrev cl : Cluster
  cl = run sys

  abbrev nodes : ℕ
  nodes = sys.setting.config.nodes

  abbrev capacity : ℕ
  capacity = sys.setting.capacity

  abbrev outcome_at : ℕ → ℕ → Outcome
  outcome_at p i = outcome_of (view cl i p)

  -- the number of a node in use
  number_in : (f : ℕ → ℤ) (i : ℕ) → nodes ≤ capacity → i < nodes → number_at (by_node sys f) i ≡ f i
  number_in f i few low =
      get_or-map-range_with_len (λ j. if nat_lt j nodes then f j else pos 0) 0 capacity i i (pos 0) (omega arith) (omega arith)
      ∙ cond-true (nat_lt i nodes) (f i) (pos 0) (lt-ltb i nodes low)

  pub starts_are : map (start_of c nodes) (ids_below capacity) ≡ offsets_in sys c 0
  starts_are = map_ids (start_of c nodes) (λ i. if nat_lt i nodes then offsets cl c 0 i else pos 0) capacity 0 (λ i l. if_alike (nat_lt i nodes) (number_at c.start i) (offsets cl c 0 i) (pos 0) (λ e. sym (offsets_first cl c i)))

  pub others : (p : ℕ) → AreOthers (map (outcome_at p) (ids_below nodes))
  others p i o e = elim (cases_lt i nodes) [
    | inl low ↦ let same : outcome_at p i ≡ o = same_Some (outcome_at p i) o (sym (recorded (outcome_at p) nodes i low) ∙ e) in ap (λ (x : Outcome). has_id x.sync i) (sym same) ∙ not_own cl i p
    | inr high ↦ absurd (none_is o (sym (unrecorded (outcome_at p) nodes i high) ∙ e))
  ]

  module _ (few : nodes ≤ capacity) (p : ℕ) where
    abbrev before : List ℤ
    before = offsets_in sys c p

    -- what is read
    reads_are : (i : ℕ) → i < nodes → map (read_by c nodes before p i) (ids_below capacity) ≡ readings_at sys.setting c (offsets cl c p) p i
    reads_are i low = map_ids (read_by c nodes before p i) (λ j. if nat_lt j nodes then reading_at c (offsets cl c p) p i j else pos 0) capacity 0
        (λ j l. if_alike (nat_lt j nodes) (reading_at c (number_at before) p i j) (reading_at c (offsets cl c p) p i j) (pos 0)
        (λ e. ap₂ (λ (x y : ℤ). (x -ℤ y) +ℤ error_at c i j p +ℤ lie_at c j i p) (number_in (offsets cl c p) j few (ltb-true j nodes e)) (number_in (offsets cl c p) i few low)))

    abbrev correct : ℕ → ℤ
    correct i = correction_at cl c (offsets cl c p) p i

    -- the correction of one node, and of all
    correction_is : (i : ℕ) → correction_by capacity c sys.setting.config.m before p (map (outcome_at p) (ids_below nodes)) i ≡ (if nat_lt i nodes then correct i else pos 0)
    correction_is i =
        let many : length (map (outcome_at p) (ids_below nodes)) ≡ nodes = length-map-range_with_len (outcome_at p) 0 nodes in
        elim (cases_lt i nodes) [
          | inl low ↦
              ap₂ (corrects_by sys.setting.config.m i) (ap (λ (n : ℕ). map (read_by c n before p i) (ids_below capacity)) many ∙ reads_are i low) (recorded (outcome_at p) nodes i low)
              ∙ sym (cond-true (nat_lt i nodes) (correct i) (pos 0) (lt-ltb i nodes low))
          | inr high ↦
              ap (corrects_by sys.setting.config.m i (map (read_by c (length (map (outcome_at p) (ids_below nodes))) before p i) (ids_below capacity))) (unrecorded (outcome_at p) nodes i high)
              ∙ sym (cond-false (nat_lt i nodes) (correct i) (pos 0) (le-ltb i nodes high))
        ]

    pub corrections_are : map (correction_by capacity c sys.setting.config.m before p (map (outcome_at p) (ids_below nodes))) (ids_below capacity) ≡ by_node sys correct
    corrections_are = map_ids (correction_by capacity c sys.setting.config.m before p (map (outcome_at p) (ids_below nodes))) (λ i. if nat_lt i nodes then correct i else pos 0) capacity 0 (λ i l. correction_is i)

    -- the offsets after the period
    pub moved_are : map (moved c nodes before (by_node sys correct) p) (ids_below capacity) ≡ offsets_in sys c (suc p)
    moved_are = map_ids (moved c nodes before (by_node sys correct) p) (λ i. if nat_lt i nodes then offsets cl c (suc p) i else pos 0) capacity 0
        (λ i l. if_alike (nat_lt i nodes) (number_at before i +ℤ number_at (by_node sys correct) i +ℤ drift_at c i p) (offsets cl c (suc p) i) (pos 0)
        (λ e.
        let low : i < nodes = ltb-true i nodes e in
        ap₂ (λ (x y : ℤ). x +ℤ y +ℤ drift_at c i p) (number_in (offsets cl c p) i few low) (number_in correct i few low) ∙ sym (offsets_next cl c p i)))

    within_limit : (z : ℤ) → p ≤ 1024 → IsUpTo (offset_limit p) z → IsOffset z
    within_limit z early h = let h0 = h.0 in let h1 = h.1 in (omega (arith, ints), omega (arith, ints))

    -- they are far from wrapping
    offsets_fit : OffsetLaw → IsClock capacity c → c.nodes ≡ nodes → p ≤ 1024 → All IsOffset before
    offsets_fit law clock same early = all_ids IsOffset (λ i. if nat_lt i nodes then offsets cl c p i else pos 0) capacity 0 (λ i l. elim (cases_lt i nodes) [
      | inl low ↦ subst IsOffset (sym (cond-true (nat_lt i nodes) (offsets cl c p i) (pos 0) (lt-ltb i nodes low))) (within_limit (offsets cl c p i) early (law cl c clock same p i (omega (arith, same, low))))
      | inr high ↦ subst IsOffset (sym (cond-false (nat_lt i nodes) (offsets cl c p i) (pos 0) (le-ltb i nodes high))) (omega (arith, ints), omega (arith, ints))
    ])

-- what a record keeps of the clocks of a period is what they are before the next
pub kept_next : {N : ℕ} (sc : ScenarioView N) (p q : ℕ) → suc p ≡ q → offsets_kept (option_map (λ c. clock_in (system_of sc) c p) sc.clock) ≡ offsets_before sc q
kept_next sc p q e = go sc.clock where
  go : (o : Option ClockView) → offsets_kept (option_map (λ c. clock_in (system_of sc) c p) o) ≡ option_map (λ c. offsets_in (system_of sc) c q) o
  go None = refl
  go (Some c) = ap (λ (k : ℕ). Some (offsets_in (system_of sc) c k)) e

-- ---- in code

-- the offsets that are kept are those before the period
offsets_there : {N : ℕ} (sc : ScenarioView N) (p : ℕ) (before : Option ClockShown) (b : ClockShown) (c : ClockView) → before ≡ Some b → sc.clock ≡ Some c
    → offsets_kept before ≡ offsets_before sc p → b.offset ≡ offsets_in (system_of sc) c p
offsets_there sc p before b c is has kept =
    same_Some b.offset (offsets_in (system_of sc) c p) (sym (ap offsets_kept is) ∙ kept ∙ ap (option_map (λ k. offsets_in (system_of sc) k p)) has)

-- what a period of a scenario's clocks is computed from
pub record AreAtHand {N : ℕ} (sc : ScenarioView N) (p : ℕ) (c : ClockView) (nodes : ℕ) (offset : List ℤ) : Type 0 where
  pub steady : AreSteady N c nodes offset
  pub kept : offset ≡ offsets_in (system_of sc) c p

pub at_hand : {N : ℕ} (sc : ScenarioView N) (p : ℕ) (before : Option ClockShown) (b : ClockShown) (c : ClockView) (nodes : ℕ) → IsScenario sc → IsCapacity N → p < sc.periods → OffsetLaw → nodes ≡ sc.config.nodes
    → before ≡ Some b → Some c ≡ sc.clock → offsets_kept before ≡ offsets_before sc p → AreAtHand sc p c nodes b.offset
at_hand {N} sc p before b c nodes accepted capacity more law many is has kept =
    let clocks : AreClocks (run (system_of sc)) (classes (system_of sc)) c = accepted.clock c (sym has) in
    let same : b.offset ≡ offsets_in (system_of sc) c p = offsets_there sc p before b c is (sym has) kept in
    let early : p ≤ 1024 = omega (arith, accepted.few_periods, more) in
    record {
      steady = record {
        capacity = capacity;
        clock = clocks.clock;
        nodes = many ∙ sym clocks.nodes;
        offsets = subst (All IsOffset) (sym same) (offsets_fit (system_of sc) c accepted.system.config.few_nodes p law clocks.clock clocks.nodes early);
      };
      kept = same;
    }

-- readings among so many nodes
pub read_alike : (c : ClockView) (a b : ℕ) (offset : List ℤ) (p i capacity : ℕ) → a ≡ b → map (read_by c a offset p i) (ids_below capacity) ≡ map (read_by c b offset p i) (ids_below capacity)
read_alike c a b offset p i capacity e = ap (λ (n : ℕ). map (read_by c n offset p i) (ids_below capacity)) e

-- a node of this mode corrects its clock as its record says
pub corrects_there : (m i : ℕ) (readings reads : List ℤ) (records : List Outcome) (o now : Outcome) (mode : Mode) → o ≡ now → slice_get records i ≡ Some now → readings ≡ reads → o.mode ≡ mode
    → corrects m i readings o.members o.sync mode ≡ corrects_by m i reads (slice_get records i)
corrects_there m i readings reads records o now mode same there read goes =
    ap (corrects m i readings o.members o.sync) (sym goes) ∙ ap₂ (λ (rs : List ℤ) (x : Outcome). corrects m i rs x.members x.sync x.mode) read same ∙ ap (corrects_by m i reads) (sym there)
