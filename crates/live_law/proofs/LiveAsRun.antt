-- A live node that is told what a run gives it answers as the run's record shows.
use Rattle.std.proofs.Common.{ℕ, zero, suc, ◌≡◌, ◌<◌, ◌+◌, ◌*◌, ◌==◌, ◌&&◌, Bool, true, not, if◌then◌else◌, List, [], ◌∷◌, ◌++◌, map, filter, refl, sym, ap, ap₂, subst, ◌∙◌, arith, eqb-true, lt-ltb, inl, inr, Option, None, Some, ℤ, pos}
use Rattle.std.specs.Prelude.{nat_lt, is_some, unwrap_or, slice_index_or}
use Rattle.std.specs.List.{flat_map, range_with_len, filter_map, cons_option}
use Rattle.std.proofs.lemmas.Bool.{cases_Bool, cond-true, cond-false, or_cases, or_left, or_right}
use Rattle.std.proofs.lemmas.Bool.Decides.{nat_tests}
use Rattle.std.proofs.lemmas.List.FromFn.{get_or-map-range_with_len}
use Rattle.std.proofs.Math.ListN.{get_or-map}
use Rattle.node_grid.specs.NodeSet.{ids_below, has_id}
use Rattle.slot_plan.specs.Slots.{slot_count}
use Rattle.error_detect.specs.Multiset.{Arriving}
use Rattle.fault_classes.specs.Plan.{restarts_at}
use Rattle.mme_vote.specs.Vote.{vote_of}
use Rattle.clock_skew.specs.Clock.{ClockView, number_at}
use Rattle.clock_skew.specs.Correction.{read_of, is_own, correction_of}
use Rattle.clock_skew.specs.Reading.{reading_at}
use Rattle.agreed_state.specs.declared.config.Config.{Config}
use Rattle.agreed_state.specs.declared.config.Inputs.{Inputs}
use Rattle.agreed_state.specs.Agreed.{AgreedView}
use Rattle.protocol.specs.Arrival.{is_good}
use Rattle.protocol.specs.Cluster.{kept, begins, view}
use Rattle.protocol.specs.Clocks.{corrects, readings_at, offsets, correction_at}
use Rattle.protocol.specs.Run.{System, members_in, run, sent}
use Rattle.protocol.specs.Configured.{setting_of}
use Rattle.protocol.specs.View.{Setting, Kept, Received, Mode, opened, adopted_by, synced_by, through, joined, view_from}
use Rattle.protocol.specs.View.Mode.{Full, Joining, Cold}
use Rattle.safety.specs.Talk.{DeliveryLaw, SayingLaw}
use Rattle.node_steps.specs.Living.{restarted_if}
use Rattle.node_steps.specs.Outcome.{Outcome}
use Rattle.node_steps.specs.Parts.{NodeView}
use Rattle.node_steps.specs.Sending.{GoesThrough, PeriodLaw}
use Rattle.node_steps.specs.Stages.{outcome_of}
use Rattle.scenario.specs.Scenario.{ScenarioView, IsScenario}
use Rattle.cluster_periods.specs.Record.{frame_at, period_record}
use Rattle.cluster_periods.specs.RecordLaws.{recorded}
use Rattle.run_text.specs.PeriodText.{alone_text}
use Rattle.live_node.specs.Live.{LiveView}
use Rattle.live_node.specs.Live.Step.{Goes}
use Rattle.live_node.specs.Text.{say_text, correct_text}
use Rattle.live_law.specs.Received.{received}
use Rattle.live_law.specs.Periods.{IsBetween, Next, begins_next, view_next, frame_next}
use Rattle.live_law.specs.Run.{system_given, IsDelivered, recorded_alone, corrected_text, record_text, run_record, BeginsAsRun, ToldClocks, AnswersAsRun, LiveRunLaw}
use Rattle.live_law.specs.Events.{PeriodEvents, arrivals_in, restarts_in, last_told, ahead_of}
use Rattle.live_law.specs.Living.{Rest, Rests, IsAllowed, next_told, view_told, frame_told, inputs_told, ahead_told, correction_told, period_text}
use Rattle.live_law.proofs.Lives.{goes_next, between_restarted}
use Rattle.live_law.proofs.LiveLife.{Takes, takes_period}
use Rattle.live_law.proofs.OfRun.{next_of, through_run, says_sent, between_runs}

-- ---- lists

pub flat_below : {X : Type 0} (f g : ℕ → List X) (a n : ℕ) → ((t : ℕ) → t < a + n → f t ≡ g t) → flat_map f (range_with_len a n) ≡ flat_map g (range_with_len a n)
flat_below f g a zero h = refl
flat_below f g a (suc n) h = ap₂ ◌++◌ (h a (omega arith)) (flat_below f g (a + 1) n (λ t l. h t (omega arith)))

filter_all : (f : ℕ → Bool) (xs : List ℕ) → ((j : ℕ) → has_id xs j ≡ true → f j ≡ true) → filter f xs ≡ xs
filter_all f [] h = refl
filter_all f (x ∷ xs) h =
    cond-true (f x) _ _ (h x (or_left (x == x) (has_id xs x) (grind (arith, nat_tests)))) ∙ ap (λ ys. x ∷ ys) (filter_all f xs (λ j on. h j (or_right (x == j) (has_id xs j) on)))

filter_map_each : (f g : ℕ → Option ℤ) (xs : List ℕ) → ((k : ℕ) → f k ≡ g k) → filter_map f xs ≡ filter_map g xs
filter_map_each f g [] h = refl
filter_map_each f g (x ∷ xs) h = ap₂ cons_option (h x) (filter_map_each f g xs h)

-- ---- whose frames were good

synced_joined : (s : Setting) (i p : ℕ) (g : Inputs) (k : Kept) (x : Received) (o : Option AgreedView) → (joined s i p g k x o).sync ≡ synced_by s i x
unfolding through
synced_joined s i p g k x None = refl
synced_joined s i p g k x (Some a) = refl

pub synced_from : (s : Setting) (i p : ℕ) (g : Inputs) (k : Kept) (x : Received) (o : Option AgreedView) → (view_from s i p g k x o).sync ≡ synced_by s i x
unfolding through
synced_from s i p g k x (Some a) = refl
synced_from s i p g k x None = synced_joined s i p g k x (adopted_by s i x.sync)

pub within : (f : ℕ → Bool) (j a n : ℕ) → has_id (filter f (range_with_len a n)) j ≡ true → j < a + n
within f j a zero h = absurd (cc)
within f j a (suc n) h = elim (cases_Bool (f a)) [
  | inl y ↦ elim (or_cases (a == j) (has_id (filter f (range_with_len (a + 1) n)) j) (ap (λ (xs : List ℕ). has_id xs j) (sym (cond-true (f a) (a ∷ filter f (range_with_len (a + 1) n)) (filter f (range_with_len (a + 1) n)) y)) ∙ h)) [
    | inl e ↦ let here : a ≡ j = eqb-true a j e in omega arith
    | inr on ↦ let l = within f j (a + 1) n on in omega (arith, l)
  ]
  | inr fails ↦ let l = within f j (a + 1) n (ap (λ (xs : List ℕ). has_id xs j) (sym (cond-false (f a) (a ∷ filter f (range_with_len (a + 1) n)) (filter f (range_with_len (a + 1) n)) fails)) ∙ h) in omega (arith, l)
]

-- ---- corrections

module _ (m : ℕ) (members good : List ℕ) (rs xs : List ℤ) (same : (k : ℕ) → has_id good k ≡ true → number_at rs k ≡ number_at xs k) where
  read_same : (own : Option ℕ) (k : ℕ) → read_of good own rs k ≡ read_of good own xs k
  read_same own k = ap (λ (o : Option ℤ). if is_own own k then Some (pos 0) else o) (elim (cases_Bool (has_id good k)) [
    | inl y ↦ cond-true (has_id good k) _ _ y ∙ ap Some (same k y) ∙ sym (cond-true (has_id good k) _ _ y)
    | inr n ↦ cond-false (has_id good k) _ _ n ∙ sym (cond-false (has_id good k) _ _ n)
  ])

  voted_same : (own : Option ℕ) → correction_of members good own rs m ≡ correction_of members good own xs m
  voted_same own = ap (λ (vs : List ℤ). unwrap_or (vote_of vs m) (pos 0)) (filter_map_each (read_of good own rs) (read_of good own xs) members (read_same own))

  corrects_same : (i : ℕ) (mode : Mode) → corrects m i rs members good mode ≡ corrects m i xs members good mode
  corrects_same i Full = voted_same (Some i)
  corrects_same i Joining = voted_same None
  corrects_same i Cold = refl

-- ---- a period

-- the frames that the record shows are those that are sent
pub frame_shown : {N : ℕ} (sc : ScenarioView N) (inputs : ℕ → ℕ → Inputs) (i p t : ℕ) → i < sc.config.nodes → t < 2 * sc.config.m + 4 → frame_at (run_record sc inputs p) t i ≡ sent (system_given sc inputs) p t i
frame_shown sc inputs i p t low l =
    ap (λ (fs : List (List ℕ)). slice_index_or fs i []) (get_or-map-range_with_len (λ t. map (sent (system_given sc inputs) p t) (ids_below sc.config.nodes)) 0 (2 * sc.config.m + 4) t t [] l (omega arith))
    ∙ get_or-map-range_with_len (sent (system_given sc inputs) p t) 0 sc.config.nodes i i [] low (omega arith)

module _ {N : ℕ} (sc : ScenarioView N) (inputs : ℕ → ℕ → Inputs) (is : IsScenario sc) (law : PeriodLaw) (delivery : DeliveryLaw) (saying : SayingLaw) (i p : ℕ) (low : i < sc.config.nodes) (r : Rest) (v : LiveView N) (q : PeriodEvents)
    (at : Rests sc i r v) (may : IsAllowed sc i (slot_count sc.config.m) r q) (begin : BeginsAsRun sc inputs i p r q)
    (goes_in : opened (setting_of sc.config) (restarts_at sc.plan i p) r.kept ≡ begins (run (system_given sc inputs)) i p)
    (come : IsDelivered (system_given sc inputs) i p (λ t. arrivals_in (q.slots t))) where
  abbrev config : Config N
  config = sc.config

  abbrev sys : System
  sys = system_given sc inputs

  abbrev ds : ℕ → List Arriving
  ds t = arrivals_in (q.slots t)

  abbrev k : Kept
  k = r.kept

  abbrev next : Next
  next = next_of sys i p ds

  abbrev o : Outcome
  o = outcome_of (view (run sys) i p)

  abbrev count : ℕ
  count = 2 * config.m + 4

  -- what it's told is what the run makes of the period
  next_is : next_told sc i r q ≡ next
  next_is =
      ap (λ (n : ℕ). record { period = n; restarts = restarts_in q.before; inputs = inputs_told sc i n q.before; slots = ds }) begin.number
      ∙ ap₂ (λ (b : Bool) (g : Inputs). record { period = p; restarts = b; inputs = g; slots = ds }) begin.restarts begin.inputs_are

  abbrev woken : NodeView N
  woken = restarted_if (restarts_at sc.plan i p) v.node

  between : IsBetween config i (begins (run sys) i p) woken
  between = subst (λ (y : Kept). IsBetween config i y woken) goes_in (between_restarted config i (restarts_at sc.plan i p) k v.node at.between)

  by_itself : GoesThrough config i p (inputs i p) (begins_next config i k next) (received config i p (inputs i p) (begins_next config i k next) ds) ds woken
  by_itself = goes_next law config i is.system.capacity is.system.config k v.node next at.between

  as_run : GoesThrough config i p (inputs i p) (begins (run sys) i p) ((run sys).received i p) ds woken
  as_run = through_run sc inputs is.system.capacity is.system.config law delivery saying i p ds come woken between

  pub frame_is : (t : ℕ) → t < count → frame_told sc i r q t ≡ sent sys p t i
  frame_is t l = ap (λ (n : Next). frame_next config i k n t) next_is ∙ sym (by_itself.frames t l) ∙ says_sent sc inputs is.system.capacity is.system.config law delivery saying i p ds come woken between t l

  outcome_is : outcome_of (view_told sc i r q) ≡ o
  outcome_is = ap (λ (n : Next). outcome_of (view_next config i k n)) next_is ∙ sym by_itself.over.outcome ∙ as_run.over.outcome

  keeps_then : (view_told sc i r q).kept ≡ kept (run sys) i (suc p)
  keeps_then =
      ap (λ (n : Next). (view_next config i k n).kept) next_is ∙ sym by_itself.over.kept
      ∙ (between_runs sc inputs is.system.capacity is.system.config law delivery saying i p ds come woken between).keeps

  -- ---- its clock

  abbrev sync : List ℕ
  sync = (view (run sys) i p).sync

  in_use : (j : ℕ) → has_id sync j ≡ true → j < config.nodes
  in_use j on =
      let l = within (λ j. not (j == i) && is_good (((run sys).received i p).sync j)) j 0 config.nodes
      (ap (λ (xs : List ℕ). has_id xs j) (sym (synced_from sys.setting i p (inputs i p) (begins (run sys) i p) ((run sys).received i p) (begins (run sys) i p).state)) ∙ on)
      in omega (arith, l)

  abbrev ahead : List (Option ℤ)
  ahead = ahead_told sc i r q

  module _ (clocks : ToldClocks sc inputs i p q) (c : ClockView) (has : sc.clock ≡ Some c) where
    abbrev reading : ℕ → ℤ
    reading j = reading_at c (offsets (run sys) c p) p i j

    told_each : (j : ℕ) → has_id sync j ≡ true → slice_index_or ahead j None ≡ Some (reading j)
    told_each j on =
        let l = in_use j on in let few = is.system.config.few_nodes in
        get_or-map-range_with_len (λ j. last_told (ahead_of j) (flat_map q.slots (ids_below (slot_count config.m)))) 0 N j j None (omega (arith, l, few)) (omega arith) ∙ clocks.each c has j on

    read_each : (j : ℕ) → has_id sync j ≡ true → number_at (map (λ y. unwrap_or y (pos 0)) ahead) j ≡ number_at (readings_at sys.setting c (offsets (run sys) c p) p i) j
    read_each j on =
        let l = in_use j on in let few = is.system.config.few_nodes in
        get_or-map (λ (y : Option ℤ). unwrap_or y (pos 0)) ahead j None ∙ ap (λ (y : Option ℤ). unwrap_or y (pos 0)) (told_each j on)
        ∙ sym (get_or-map-range_with_len (λ j. if nat_lt j config.nodes then reading j else pos 0) 0 N j j (pos 0) (omega (arith, l, few)) (omega arith) ∙ cond-true (nat_lt j config.nodes) (reading j) (pos 0) (lt-ltb j config.nodes l))

    abbrev corrects_by : Outcome → List ℕ → ℤ
    corrects_by o good = corrects config.m i (map (λ y. unwrap_or y (pos 0)) ahead) o.members good o.mode

    correction_is : correction_told sc i r q ≡ correction_at (run sys) c (offsets (run sys) c p) p i
    correction_is =
        ap (λ (y : Outcome). corrects_by y (filter (λ j. is_some (slice_index_or ahead j None)) y.sync)) outcome_is
        ∙ ap (corrects_by o) (filter_all (λ j. is_some (slice_index_or ahead j None)) sync (λ j on. ap (λ (y : Option ℤ). is_some y) (told_each j on)))
        ∙ corrects_same config.m (members_in (view (run sys) i p).before) sync (map (λ y. unwrap_or y (pos 0)) ahead) (readings_at sys.setting c (offsets (run sys) c p) p i) read_each i (view (run sys) i p).mode

  corrected : (y : Option ClockView) (by : ℤ) → (if is_some y then correct_text by else []) ≡ corrected_text by (period_record sys y p).clock
  corrected None by = refl
  corrected (Some c) by = refl

  -- ---- its text

  text_is : period_text sc i r q ≡ record_text (run_record sc inputs p) i (correction_told sc i r q)
  text_is =
      ap₂ ◌++◌ (flat_below (λ t. say_text t (frame_told sc i r q t)) (λ t. say_text t (frame_at (run_record sc inputs p) t i)) 0 count (λ t l. ap (say_text t) (frame_is t (omega arith) ∙ sym (frame_shown sc inputs i p t low (omega arith)))))
      (ap₂ ◌++◌
      (ap₂ (λ (n : ℕ) (y : Outcome). alone_text n i config.nodes config.policy.retire y) begin.number outcome_is ∙ ap (recorded_alone (run_record sc inputs p) i) (sym (recorded (λ j. outcome_of (view (run sys) j p)) config.nodes i low)))
      (corrected sc.clock (correction_told sc i r q)))

  pub answers : AnswersAsRun sc inputs i p r v q
  answers =
      let t : Takes sc i r v q = takes_period law sc i r v q is at may in
      record {
        to = t.to;
        by = correction_told sc i r q;
        takes = t.takes ∙ ap (Goes t.to) text_is;
        corrects = λ clocks c has. correction_is clocks c has;
        rests = subst (λ (y : Rest). Rests sc i y t.to) (ap₂ (λ (y : Kept) (n : ℕ). record { kept = y; next = n + 1; run = r.run + 1 }) keeps_then begin.number) t.rests;
      }

pub live_run_law : PeriodLaw → DeliveryLaw → SayingLaw → LiveRunLaw
live_run_law law delivery saying N sc inputs i p r v q is low at may begin goes_in come = answers sc inputs is law delivery saying i p low r v q at may begin goes_in come
