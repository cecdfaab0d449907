-- Controllers that are told what the run of a scenario gives them and what it delivers are linked.
use Rattle.std.proofs.Common.{ℕ, zero, suc, ◌≡◌, ◌≢◌, ◌<◌, ◌≤◌, ◌+◌, ◌-◌, ◌*◌, ◌^◌, ◌==◌, ◌&&◌, ◌||◌, Bool, true, false, not, if◌then◌else◌, List, [], ◌∷◌, ◌++◌, map, replicate, refl, sym, ap, ap₂, subst, ◌∙◌, inl, inr, arith, eq-eqb, ne_eqb, lt-ltb, le-ltb, Option, None, Some, ℤ}
use Rattle.std.specs.Prelude.{All, nat_lt, is_some}
use Rattle.std.specs.List.{flat_map, range_with_len}
use Rattle.std.specs.Option.{option_or}
use Rattle.std.proofs.lemmas.Bool.{cases_Bool, cases_eq, cases_lt, cond-true, cond-false, and_parts, not-true, eqb-false}
use Rattle.std.proofs.lemmas.List.{append-nil, map-append}
use Rattle.std.proofs.lemmas.List.Concat.{flat_map-append}
use Rattle.std.proofs.lemmas.List.Elements.{All-nil, All-cons, All-append, filter_map-append}
use Rattle.node_grid.specs.NodeSet.{ids_below, has_id}
use Rattle.node_grid.specs.NodeSetLaws.{passes_where}
use Rattle.slot_plan.specs.Slots.{slot_count}
use Rattle.error_detect.specs.Multiset.{Arriving, from_sender}
use Rattle.fault_classes.specs.Line.{effect_at}
use Rattle.fault_classes.specs.Plan.{restarts_at}
use Rattle.fault_link.specs.Arrival.{delivered_of}
use Rattle.clock_skew.specs.Clock.{ClockView}
use Rattle.clock_skew.specs.Reading.{reading_at}
use Rattle.protocol.specs.RowLaws.{All-map_ids}
use Rattle.protocol.specs.Arrival.{is_good}
use Rattle.protocol.specs.Cluster.{kept, begins, view}
use Rattle.protocol.specs.Clocks.{offsets}
use Rattle.protocol.specs.Run.{System, run, sent}
use Rattle.protocol.specs.Steps.{after_steps}
use Rattle.protocol.specs.View.{channel_room}
use Rattle.safety.specs.Talk.{DeliveryLaw, SayingLaw}
use Rattle.node_steps.specs.Steps.{frame_of}
use Rattle.node_steps.specs.Sending.{PeriodLaw}
use Rattle.scenario.specs.Scenario.{ScenarioView, IsScenario, system_of, inputs_of}
use Rattle.cluster_periods.specs.Slots.{arriving, arrivals, from_node}
use Rattle.cluster_periods.proofs.Arriving.{from_each}
use Rattle.live_node.specs.Event.{Event}
use Rattle.live_node.specs.Event.Event.{Deliver, Restart, Ahead}
use Rattle.live_node.specs.Live.{LiveView, IsNewLive, Step, replaced}
use Rattle.live_law.specs.Events.{PeriodEvents, restarts_in, arrivals_in, arrival_of, last_told, ahead_of, readings_told}
use Rattle.live_law.specs.Living.{Rest, rest_of, Rests, IsAllowed, inputs_told, ComesWithin, ComesBefore}
use Rattle.live_law.specs.Run.{IsDelivered, BeginsAsRun, ToldClocks, AnswersAsRun}
use Rattle.live_law.specs.Cluster.{LiveControllers, AreLinked, Continues, RunAsPlanned, LivePlanLaw, reached, after_events, said_live}
use Rattle.live_law.proofs.LiveAsRun.{live_run_law, frame_is, within, synced_from}
use Rattle.live_law.proofs.LiveLife.{say_law, new_law}

-- ---- what is told last of a clock

last-append : (tells : Event → Option ℤ) (xs ys : List Event) → last_told tells (xs ++ ys) ≡ option_or (last_told tells ys) (last_told tells xs)
last-append tells [] ys = go (last_told tells ys) where
  go : (o : Option ℤ) → o ≡ option_or o None
  go None = refl
  go (Some x) = refl
last-append tells (x ∷ xs) ys = ap (λ (o : Option ℤ). option_or o (tells x)) (last-append tells xs ys) ∙ go (last_told tells ys) where
  go : (o : Option ℤ) → option_or (option_or o (last_told tells xs)) (tells x) ≡ option_or o (option_or (last_told tells xs) (tells x))
  go None = refl
  go (Some y) = refl

abbrev deliver : Arriving → Event
deliver d = Deliver d.from d.tick d.bytes

no_clock : (j : ℕ) (ds : List Arriving) → last_told (ahead_of j) (map deliver ds) ≡ None
no_clock j [] = refl
no_clock j (d ∷ ds) = ap (λ (o : Option ℤ). option_or o None) (no_clock j ds)

-- the clocks of these nodes
abbrev clocks_of : (ℕ → ℤ) → List ℕ → List Event
clocks_of reading js = map (λ j. Ahead j (reading j)) js

differs : (a b : Bool) → (a || b) ≡ true → a ≡ false → b ≡ false → ⊥
differs true b h x y = cc
differs false b h x y = cc

module _ (reading : ℕ → ℤ) (j : ℕ) where
  -- a node that isn't among them, and one that is
  not_told : (js : List ℕ) → has_id js j ≡ false → last_told (ahead_of j) (clocks_of reading js) ≡ None
  not_told [] off = refl
  not_told (k ∷ ks) off = elim (cases_Bool (k == j)) [
    | inl here ↦ absurd (let e = sym (ap (λ (b : Bool). b || has_id ks j) here) ∙ off in cc)
    | inr other ↦
        let rest : has_id ks j ≡ false = sym (ap (λ (b : Bool). b || has_id ks j) other) ∙ off in
        ap (λ (o : Option ℤ). option_or o (ahead_of j (Ahead k (reading k)))) (not_told ks rest) ∙ cond-false (k == j) (Some (reading k)) None other
  ]

  told_once : (js : List ℕ) → has_id js j ≡ true → last_told (ahead_of j) (clocks_of reading js) ≡ Some (reading j)
  told_once [] on = absurd (cc)
  told_once (k ∷ ks) on = elim (cases_Bool (has_id ks j)) [
    | inl y ↦ ap (λ (o : Option ℤ). option_or o (ahead_of j (Ahead k (reading k)))) (told_once ks y)
    | inr off ↦ elim (cases_eq k j) [
      | inr ne ↦ absurd (differs (k == j) (has_id ks j) on (ne_eqb k j ne) off)
      | inl e ↦ ap (λ (o : Option ℤ). option_or o (ahead_of j (Ahead k (reading k)))) (not_told ks off) ∙ cond-true (k == j) (Some (reading k)) None (eq-eqb k j e) ∙ ap (λ (q : ℕ). Some (reading q)) e
    ]
  ]

-- ---- what is delivered

all_arrive : (ds : List Arriving) → arrivals_in (map deliver ds) ≡ ds
all_arrive [] = refl
all_arrive (d ∷ ds) = ap (λ (xs : List Arriving). d ∷ xs) (all_arrive ds)

none_arrive : (reading : ℕ → ℤ) (js : List ℕ) → arrivals_in (clocks_of reading js) ≡ []
none_arrive reading [] = refl
none_arrive reading (j ∷ js) = none_arrive reading js

-- ---- a period

replaced_none : (n : ℕ) (xs : List ℤ) → replaced (replicate n None) xs ≡ xs
replaced_none zero xs = refl
replaced_none (suc n) [] = refl
replaced_none (suc n) (x ∷ xs) = ap (λ (ys : List ℤ). x ∷ ys) (replaced_none n xs)

-- a restart, where there is one
abbrev restart_if : Bool → List Event
restart_if b = if b then Restart ∷ [] else []

restarts_are : (b : Bool) → restarts_in (restart_if b) ≡ b
restarts_are true = refl
restarts_are false = refl

module _ {N : ℕ} (sc : ScenarioView N) (first : ℕ → LiveView N) where
  abbrev sys : System
  sys = system_of sc

  abbrev count : ℕ
  count = slot_count sc.config.m

  abbrev reading : ClockView → ℕ → ℕ → ℕ → ℤ
  reading c i p j = reading_at c (offsets (run sys) c p) p i j

  -- the run's clocks, told in the sync slot
  abbrev clocks : Option ClockView → ℕ → ℕ → ℕ → List Event
  clocks None i p t = []
  clocks (Some c) i p zero = clocks_of (reading c i p) (view (run sys) i p).sync
  clocks (Some c) i p (suc t) = []

  abbrev come : ℕ → ℕ → ℕ → List Arriving
  come i p t = arrivals sc.plan sc.order sc.config.nodes p t (sent sys p t) i

  -- with these clocks, what is told in a slot
  abbrev slots : Option ClockView → ℕ → ℕ → ℕ → List Event
  slots o i p t = map deliver (come i p t) ++ clocks o i p t

  abbrev told : ℕ → ℕ → PeriodEvents
  told i p = record { before = restart_if (restarts_at sc.plan i p); number = None; slots = slots sc.clock i p }

  abbrev cs : LiveControllers N
  cs = record {
    live = λ i p. after_steps (λ q v. after_events sc.config.m v (told i q)) p (first i);
    told = told;
    ran = λ i p. if nat_lt p (2 ^ 32) then count else 0;
  }

  module _ (is : IsScenario sc) where
    within_order : sc.order ≤ sc.config.nodes
    within_order = let l = is.order in omega (arith, l)

    -- ---- what is told in a slot

    none_come : (o : Option ClockView) (i p t : ℕ) → arrivals_in (clocks o i p t) ≡ []
    none_come None i p t = refl
    none_come (Some c) i p zero = none_arrive (reading c i p) (view (run sys) i p).sync
    none_come (Some c) i p (suc t) = refl

    is_delivered : (i p : ℕ) → IsDelivered sys i p (λ t. arrivals_in ((told i p).slots t))
    is_delivered i p = record {
      each = λ t j slot low ne.
          ap (from_sender j)
          (filter_map-append arrival_of (map deliver (come i p t)) (clocks sc.clock i p t) ∙ ap₂ ◌++◌ (all_arrive (come i p t)) (none_come sc.clock i p t) ∙ append-nil (come i p t))
          ∙ from_each sc.plan p t (sent sys p t) i j sc.order sc.config.nodes within_order low ne;
    }

    module _ (i p : ℕ) where
      abbrev Within : List Event → Type 0
      Within es = All (ComesWithin sc i) es

      from_one : (j : ℕ) → j < sc.config.nodes → j ≢ i → (ds : List (ℕ × List ℕ)) → Within (map deliver (map (arriving j) ds))
      from_one j low ne [] = All-nil (ComesWithin sc i)
      from_one j low ne (d ∷ ds) = All-cons (ComesWithin sc i) (Deliver j d.0 d.1) (map deliver (map (arriving j) ds)) (low, ne) (from_one j low ne ds)

      from_range : (t a n : ℕ) → a + n ≤ sc.config.nodes → Within (map deliver (flat_map (from_node sc.plan p t (sent sys p t) i) (range_with_len a n)))
      from_range t a zero few = All-nil (ComesWithin sc i)
      from_range t a (suc n) few =
          subst Within (sym (map-append deliver (from_node sc.plan p t (sent sys p t) i a) (flat_map (from_node sc.plan p t (sent sys p t) i) (range_with_len (a + 1) n))))
          (All-append (ComesWithin sc i) (map deliver (from_node sc.plan p t (sent sys p t) i a)) (map deliver (flat_map (from_node sc.plan p t (sent sys p t) i) (range_with_len (a + 1) n)))
          (elim (cases_eq a i) [
            | inl e ↦ subst (λ (ds : List Arriving). Within (map deliver ds)) (sym (cond-true (a == i) [] (map (arriving a) (delivered_of (effect_at sc.plan.lines p t a i) (sent sys p t a))) (eq-eqb a i e))) (All-nil (ComesWithin sc i))
            | inr ne ↦ subst (λ (ds : List Arriving). Within (map deliver ds)) (sym (cond-false (a == i) [] (map (arriving a) (delivered_of (effect_at sc.plan.lines p t a i) (sent sys p t a))) (ne_eqb a i ne))) (from_one a (omega arith) ne (delivered_of (effect_at sc.plan.lines p t a i) (sent sys p t a)))
          ]) (from_range t (a + 1) n (omega arith)))

      all_from : (t : ℕ) → Within (map deliver (come i p t))
      all_from t =
          let l = within_order in
          subst (λ (ds : List Arriving). Within (map deliver ds)) (sym (flat_map-append (from_node sc.plan p t (sent sys p t) i) (range_with_len sc.order (sc.config.nodes - sc.order)) (range_with_len 0 sc.order)))
          (subst Within (sym (map-append deliver (flat_map (from_node sc.plan p t (sent sys p t) i) (range_with_len sc.order (sc.config.nodes - sc.order))) (flat_map (from_node sc.plan p t (sent sys p t) i) (range_with_len 0 sc.order))))
          (All-append (ComesWithin sc i) (map deliver (flat_map (from_node sc.plan p t (sent sys p t) i) (range_with_len sc.order (sc.config.nodes - sc.order)))) (map deliver (flat_map (from_node sc.plan p t (sent sys p t) i) (range_with_len 0 sc.order)))
          (from_range t sc.order (sc.config.nodes - sc.order) (omega (arith, l))) (from_range t 0 sc.order (omega (arith, l)))))

      abbrev good : ℕ → Bool
      good j = not (j == i) && is_good (((run sys).received i p).sync j)

      -- whose frame in the sync slot is good is another node
      other_good : (j : ℕ) → has_id (view (run sys) i p).sync j ≡ true → (j < sc.config.nodes) × (j ≢ i)
      other_good j on =
          let here = ap (λ (xs : List ℕ). has_id xs j) (sym (synced_from sys.setting i p (inputs_of sc i p) (begins (run sys) i p) ((run sys).received i p) (begins (run sys) i p).state)) ∙ on in
          let l = within good j 0 sc.config.nodes here in
          let k = and_parts (not (j == i)) (is_good (((run sys).received i p).sync j)) (passes_where good sc.config.nodes j here) in
          (omega (arith, l), eqb-false j i (not-true (j == i) k.0))

      all_clocks : (o : Option ClockView) → sc.clock ≡ o → (t : ℕ) → Within (clocks o i p t)
      all_clocks None has t = All-nil (ComesWithin sc i)
      all_clocks (Some c) has zero =
          All-map_ids (ComesWithin sc i) (λ j. Ahead j (reading c i p j)) (view (run sys) i p).sync (λ j on. let k = other_good j on in (k.0, k.1, ap (λ (o : Option ClockView). is_some o) has))
      all_clocks (Some c) has (suc t) = All-nil (ComesWithin sc i)

      all_within : (t : ℕ) → Within ((told i p).slots t)
      all_within t = All-append (ComesWithin sc i) (map deliver (come i p t)) (clocks sc.clock i p t) (all_from t) (all_clocks sc.clock refl t)

      -- ---- the clocks that are told

      later : (c : ClockView) (j a n : ℕ) → 0 < a → last_told (ahead_of j) (flat_map (slots (Some c) i p) (range_with_len a n)) ≡ None
      later c j a zero some = refl
      later c j zero (suc n) some = absurd (omega arith)
      later c j (suc a) (suc n) some =
          last-append (ahead_of j) (slots (Some c) i p (suc a)) (flat_map (slots (Some c) i p) (range_with_len (suc a + 1) n))
          ∙ ap₂ option_or (later c j (suc a + 1) n (omega arith)) (ap (last_told (ahead_of j)) (append-nil (map deliver (come i p (suc a)))) ∙ no_clock j (come i p (suc a)))

      clock_told : (c : ClockView) (j n : ℕ) → has_id (view (run sys) i p).sync j ≡ true → last_told (ahead_of j) (flat_map (slots (Some c) i p) (range_with_len 0 (suc n))) ≡ Some (reading c i p j)
      clock_told c j n on =
          last-append (ahead_of j) (slots (Some c) i p 0) (flat_map (slots (Some c) i p) (range_with_len 1 n))
          ∙ ap₂ option_or (later c j 1 n (omega arith))
          (last-append (ahead_of j) (map deliver (come i p 0)) (clocks_of (reading c i p) (view (run sys) i p).sync) ∙ ap (λ (o : Option ℤ). option_or o (last_told (ahead_of j) (map deliver (come i p 0)))) (told_once (reading c i p) j (view (run sys) i p).sync on))

      told_clocks : ToldClocks sc (inputs_of sc) i p (told i p)
      told_clocks = record {
        each = λ c has j on.
            ap (λ (o : Option ClockView). last_told (ahead_of j) (flat_map (slots o i p) (ids_below count))) has
            ∙ ap (λ (n : ℕ). last_told (ahead_of j) (flat_map (slots (Some c) i p) (range_with_len 0 n))) (let e : 2 * sc.config.m + 4 ≡ suc (2 * sc.config.m + 3) = omega arith in e)
            ∙ clock_told c j (2 * sc.config.m + 3) on;
      }

      -- ---- the begin

      before_comes : (b : Bool) → All (ComesBefore sc i) (restart_if b)
      before_comes true = All-cons (ComesBefore sc i) Restart [] tt (All-nil (ComesBefore sc i))
      before_comes false = All-nil (ComesBefore sc i)

      allowed : (n : ℕ) (r : Rest) → r.next < 2 ^ 32 → IsAllowed sc i n r (told i p)
      allowed n r low = record { before = before_comes (restarts_at sc.plan i p); number = low; within = λ t l. all_within t }

      nothing_told : (b : Bool) → readings_told (restart_if b) ≡ replicate channel_room None
      nothing_told true = refl
      nothing_told false = refl

      given_is : inputs_told sc i p (restart_if (restarts_at sc.plan i p)) ≡ inputs_of sc i p
      given_is =
          ap (λ (xs : List ℤ). record (inputs_of sc i p) { reading = xs })
          (ap (λ (os : List (Option ℤ)). replaced os (inputs_of sc i p).reading) (nothing_told (restarts_at sc.plan i p)) ∙ replaced_none channel_room (inputs_of sc i p).reading)

      begins_as : (r : Rest) → r.next ≡ p → BeginsAsRun sc (inputs_of sc) i p r (told i p)
      begins_as r at = record { number = at; restarts = restarts_are (restarts_at sc.plan i p); inputs_are = given_is }

    -- ---- period by period

    module _ (law : PeriodLaw) (delivery : DeliveryLaw) (saying : SayingLaw) (new : (i : ℕ) → i < sc.config.nodes → IsNewLive sc i (first i)) where
      abbrev r : ℕ → ℕ → Rest
      r i p = record { kept = kept (run sys) i p; next = p; run = p }

      rests_at : (p i : ℕ) → i < sc.config.nodes → p ≤ 2 ^ 32 → Rests sc i (r i p) (cs.live i p)
      unfolding kept
      rests_at zero i low few = new_law N sc i (first i) is (new i low)
      rests_at (suc p) i low few =
          let a : AnswersAsRun sc (inputs_of sc) i p (r i p) (cs.live i p) (told i p) =
          live_run_law law delivery saying N sc (inputs_of sc) i p (r i p) (cs.live i p) (told i p) is low (rests_at p i low (omega arith)) (allowed i p count (r i p) (omega arith)) (begins_as i p (r i p) refl) refl (is_delivered i p)
          in
          subst (λ (n : ℕ). Rests sc i (record { kept = kept (run sys) i (suc p); next = n; run = n }) (cs.live i (suc p))) (let e : p + 1 ≡ suc p = omega arith in e)
          (subst (λ (v : LiveView N). Rests sc i (record { kept = kept (run sys) i (suc p); next = p + 1; run = p + 1 }) v) (sym (ap (reached (cs.live i p)) a.takes)) a.rests)

      runs_all : (i p : ℕ) → p < 2 ^ 32 → cs.ran i p ≡ count
      runs_all i p low = cond-true (nat_lt p (2 ^ 32)) count 0 (lt-ltb p (2 ^ 32) low)

      has_number : (i p : ℕ) → 0 < cs.ran i p → p < 2 ^ 32
      has_number i p some = elim (cases_lt p (2 ^ 32)) [
        | inl low ↦ low
        | inr high ↦ absurd (let e : cs.ran i p ≡ 0 = cond-false (nat_lt p (2 ^ 32)) count 0 (le-ltb p (2 ^ 32) high) in omega arith)
      ]

      says_sent : (i p t : ℕ) → i < sc.config.nodes → p < 2 ^ 32 → t < count → said_live (cs.live i p) (told i p) t ≡ sent sys p t i
      says_sent i p t low few slot =
          let at = rests_at p i low (omega arith) in
          let s = say_law law N sc i (r i p) (cs.live i p) (told i p) t is at (allowed i p t (r i p) few) slot in
          ap (λ (y : Step N). frame_of (reached (cs.live i p) y).node) s.takes ∙ s.frame
          ∙ frame_is sc (inputs_of sc) is law delivery saying i p low (r i p) (cs.live i p) (told i p) at (allowed i p count (r i p) few) (begins_as i p (r i p) refl) refl (is_delivered i p) t slot

      comes : (i p : ℕ) → i < sc.config.nodes → p < 2 ^ 32 → Continues sc (inputs_of sc) cs i p
      comes i zero low few = new i low
      comes i (suc p) low few = (runs_all i p (omega arith), refl)

      linked : AreLinked sc (inputs_of sc) cs
      linked = record {
        runs = λ i p low some.
            let few = has_number i p some in
            let at = rests_at p i low (omega (arith, few)) in
            record {
              comes = inl (comes i p low few);
              may = allowed i p (cs.ran i p) (rest_of (cs.live i p)) (let e = at.next in omega (arith, e, few));
              as_run = begins_as i p (rest_of (cs.live i p)) at.next;
            };
        hear = λ i j p t li lj ne slot up.
            let few = has_number i p (omega (arith, up)) in
            record {
              spoken = λ speaks. (is_delivered i p).each t j slot lj ne ∙ ap (delivered_of (effect_at sc.plan.lines p t j i)) (sym (says_sent j p t lj few slot));
              silent = λ down. absurd (let e = runs_all j p few in omega (arith, e, down, slot));
            };
      }

      pub planned : RunAsPlanned sc first
      planned = record {
        controllers = cs;
        begin = λ i. refl;
        linked = linked;
        whole = λ i p low. runs_all i p low;
        clocks = λ i p low few. told_clocks i p;
      }

pub plan_law : PeriodLaw → DeliveryLaw → SayingLaw → LivePlanLaw
plan_law law delivery saying N sc first is new = planned sc first is law delivery saying new
