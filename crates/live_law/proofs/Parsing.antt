-- Events that a live node takes are those of periods.
use Rattle.std.proofs.Common.{ℕ, zero, suc, ◌≡◌, ◌≢◌, ◌<◌, ◌≤◌, ◌+◌, ◌*◌, ◌^◌, ◌==◌, ◌&&◌, ◌||◌, ◌⊎◌, Bool, true, false, not, List, [], ◌∷◌, ◌++◌, length, refl, sym, ap, subst, ◌∙◌, inl, inr, arith, eqb-true, Option, None, Some}
use Rattle.std.specs.Prelude.{All, nat_lt, is_some}
use Rattle.std.specs.List.{fold, flat_map, range_with_len}
use Rattle.std.proofs.lemmas.Bool.{cases_Bool, cases_lt, cond-true, cond-false, and_parts, or_cases, not-true, eqb-false}
use Rattle.std.proofs.lemmas.List.{append_assoc, append-nil}
use Rattle.std.proofs.lemmas.List.Elements.{All-nil, All-cons}
use Rattle.std.proofs.lemmas.List.Sums.{fold-append}
use Rattle.slot_plan.specs.Slots.{slot_count}
use Rattle.node_grid.specs.NumberFacts.{lt_from}
use Rattle.node_steps.specs.Living.{restarted_if}
use Rattle.node_steps.specs.Sending.{PeriodLaw}
use Rattle.scenario.specs.Scenario.{ScenarioView, IsScenario}
use Rattle.live_node.specs.Event.{Event}
use Rattle.live_node.specs.Event.Event.{Begin, Deliver, End, Restart, Reading, Ahead}
use Rattle.live_node.specs.Live.{LiveView, Step, is_of_cluster, allowed, may_begin, is_other, told, answer, unknown_rule, not_now_rule}
use Rattle.live_node.specs.Live.Step.{Goes, Refuses}
use Rattle.live_law.specs.Events.{behind, step_on, all_steps, PeriodEvents, part_of, events_of, restarts_in}
use Rattle.live_law.specs.Living.{Rest, Rests, ComesBefore, ComesWithin, MayBegin, IsAllowed, AreAllowed, AnswersLife, LiveEventsLaw, after_period, life_text, after_life}
use Rattle.live_law.proofs.Lists.{flat_push}
use Rattle.live_law.proofs.Lives.{between_restarted}
use Rattle.live_law.proofs.LiveLife.{live_life}
use Rattle.live_law.proofs.Spans.{live_at, after_all, lines, in_slot, through, to_begin, one_slot, last_slot, rests_after}
use Rattle.live_law.proofs.Steps.{goes, rested, rests}

-- events are those of periods, and behind them restarts and readings
record ArePeriodsOf {N : ℕ} (sc : ScenarioView N) (id : ℕ) (r : Rest) (es : List Event) : Type 0 where
  pub periods : List PeriodEvents
  pub left : List Event
  pub are : es ≡ flat_map (events_of sc.config.m) periods ++ left
  pub allowed : AreAllowed sc id r periods
  pub before : All (ComesBefore sc id) left

-- ---- a refusal stays, so what was taken was known and allowed

stays : {N : ℕ} (rule : ℕ) (es : List Event) (w : LiveView N) (text : List ℕ) → fold step_on (Refuses rule) es ≡ Goes w text → ⊥
stays rule [] w text h = cc
stays rule (e ∷ es) w text h = stays rule es w text h

node_of : {N : ℕ} → LiveView N → Step N → LiveView N
node_of v (Goes w text) = w
node_of v (Refuses rule) = v

same_node : {N : ℕ} (v w : LiveView N) (s t : List ℕ) → Goes v s ≡ Goes w t → v ≡ w
unfolding node_of
same_node v w s t h = ap (node_of v) h

-- an event that was taken
record WasTaken {N : ℕ} (v : LiveView N) (text : List ℕ) (e : Event) (es : List Event) (w : LiveView N) (t : List ℕ) : Type 0 where
  pub known : is_of_cluster v e ≡ true
  pub now : allowed v e ≡ true
  pub then : fold step_on (Goes (told v e) (text ++ answer (told v e) e)) es ≡ Goes w t

taken : {N : ℕ} (v : LiveView N) (text : List ℕ) (e : Event) (es : List Event) (w : LiveView N) (t : List ℕ) → fold step_on (Goes v text) (e ∷ es) ≡ Goes w t → WasTaken v text e es w t
taken {N} v text e es w t h = elim (cases_Bool (is_of_cluster v e)) [
  | inr unknown ↦ absurd (stays unknown_rule es w t (sym (ap (λ (s : Step N). fold step_on (behind text s) es) (cond-false (is_of_cluster v e) _ _ unknown)) ∙ h))
  | inl known ↦ elim (cases_Bool (allowed v e)) [
    | inr late ↦ absurd (stays not_now_rule es w t (sym (ap (λ (s : Step N). fold step_on (behind text s) es) (cond-true (is_of_cluster v e) _ _ known ∙ cond-false (allowed v e) _ _ late)) ∙ h))
    | inl now ↦ record { known = known; now = now; then = sym (ap (λ (s : Step N). fold step_on s es) (goes v text e known now)) ∙ h }
  ]
]

both : (b : Bool) → b ≡ true → b ≡ false → ⊥
both b t f = cc

-- ---- between periods

-- the restarts and readings at the front, and what is behind them
front : List Event → List Event
front (Restart ∷ es) = Restart ∷ front es
front (Reading c x ∷ es) = Reading c x ∷ front es
front _ = []

behind_front : List Event → List Event
behind_front (Restart ∷ es) = behind_front es
behind_front (Reading c x ∷ es) = behind_front es
behind_front es = es

parts_of : (es : List Event) → es ≡ front es ++ behind_front es
unfolding front behind_front
parts_of [] = refl
parts_of (Restart ∷ es) = ap (λ (xs : List Event). Restart ∷ xs) (parts_of es)
parts_of (Reading c x ∷ es) = ap (λ (xs : List Event). Reading c x ∷ xs) (parts_of es)
parts_of (Begin o ∷ es) = refl
parts_of (Deliver from tick bytes ∷ es) = refl
parts_of (End ∷ es) = refl
parts_of (Ahead j x ∷ es) = refl

shorter : (es : List Event) → length (behind_front es) ≤ length es
unfolding behind_front
shorter [] = omega arith
shorter (Restart ∷ es) = let l = shorter es in omega (arith, l)
shorter (Reading c x ∷ es) = let l = shorter es in omega (arith, l)
shorter (Begin o ∷ es) = omega arith
shorter (Deliver from tick bytes ∷ es) = omega arith
shorter (End ∷ es) = omega arith
shorter (Ahead j x ∷ es) = omega arith

module _ {N : ℕ} (w : LiveView N) (t : List ℕ) where
  front_comes : (v : LiveView N) (text : List ℕ) (es : List Event) → v.node.phase.is_open ≡ false → fold step_on (Goes v text) es ≡ Goes w t → All (ComesBefore v.scenario v.id) (front es)
  unfolding front
  front_comes v text [] shut h = All-nil (ComesBefore v.scenario v.id)
  front_comes v text (Restart ∷ es) shut h =
      All-cons (ComesBefore v.scenario v.id) Restart (front es) tt (front_comes (told v Restart) (text ++ []) es shut (taken v text Restart es w t h).then)
  front_comes v text (Reading c x ∷ es) shut h =
      let k = taken v text (Reading c x) es w t h in
      All-cons (ComesBefore v.scenario v.id) (Reading c x) (front es) (lt_from c (length v.scenario.config.channels.items) k.known) (front_comes (told v (Reading c x)) (text ++ []) es shut k.then)
  front_comes v text (Begin o ∷ es) shut h = All-nil (ComesBefore v.scenario v.id)
  front_comes v text (Deliver from tick bytes ∷ es) shut h = All-nil (ComesBefore v.scenario v.id)
  front_comes v text (End ∷ es) shut h = All-nil (ComesBefore v.scenario v.id)
  front_comes v text (Ahead j x ∷ es) shut h = All-nil (ComesBefore v.scenario v.id)

  -- behind them stands nothing, or a begin
  behind_begins : (v : LiveView N) (text : List ℕ) (es : List Event) → v.node.phase.is_open ≡ false → fold step_on (Goes v text) (behind_front es) ≡ Goes w t
      → (behind_front es ≡ []) ⊎ ((o : Option ℕ) × (xs : List Event) × (behind_front es ≡ Begin o ∷ xs))
  unfolding behind_front
  behind_begins v text [] shut h = inl refl
  behind_begins v text (Restart ∷ es) shut h = behind_begins v text es shut h
  behind_begins v text (Reading c x ∷ es) shut h = behind_begins v text es shut h
  behind_begins v text (Begin o ∷ es) shut h = inr (o, es, refl)
  behind_begins v text (Deliver from tick bytes ∷ es) shut h = absurd (both v.node.phase.is_open (taken v text (Deliver from tick bytes) es w t h).now shut)
  behind_begins v text (End ∷ es) shut h = absurd (both v.node.phase.is_open (taken v text End es w t h).now shut)
  behind_begins v text (Ahead j x ∷ es) shut h = absurd (both v.node.phase.is_open (taken v text (Ahead j x) es w t h).now shut)

-- ---- in a slot

-- what stands before the first end, and behind it
in_front : List Event → List Event
in_front [] = []
in_front (End ∷ es) = []
in_front (e ∷ es) = e ∷ in_front es

behind_end : List Event → List Event
behind_end [] = []
behind_end (End ∷ es) = es
behind_end (e ∷ es) = behind_end es

less_behind : (es : List Event) → length (behind_end es) ≤ length es
unfolding behind_end
less_behind [] = omega arith
less_behind (End ∷ es) = omega arith
less_behind (Begin o ∷ es) = let l = less_behind es in omega (arith, l)
less_behind (Deliver from tick bytes ∷ es) = let l = less_behind es in omega (arith, l)
less_behind (Restart ∷ es) = let l = less_behind es in omega (arith, l)
less_behind (Reading c x ∷ es) = let l = less_behind es in omega (arith, l)
less_behind (Ahead j x ∷ es) = let l = less_behind es in omega (arith, l)

-- behind so many ends
behind_ends : List Event → ℕ → List Event
behind_ends es zero = es
behind_ends es (suc t) = behind_end (behind_ends es t)

fewer_behind : (es : List Event) (t : ℕ) → length (behind_ends es t) ≤ length es
unfolding behind_ends
fewer_behind es zero = omega arith
fewer_behind es (suc t) = let l = fewer_behind es t in let k = less_behind (behind_ends es t) in omega (arith, l, k)

slot_in : List Event → ℕ → List Event
slot_in es t = in_front (behind_ends es t)

other_told : (nodes id j : ℕ) → (nat_lt j nodes && not (j == id)) ≡ true → (j < nodes) × (j ≢ id)
other_told nodes id j h = let k = and_parts (nat_lt j nodes) (not (j == id)) h in (lt_from j nodes k.0, eqb-false j id (not-true (j == id) k.1))

-- an open slot that is shut in the end has an end
record Ends {N : ℕ} (u : LiveView N) (es : List Event) : Type 0 where
  pub are : es ≡ in_front es ++ End ∷ behind_end es
  pub within : All (ComesWithin u.scenario u.id) (in_front es)

module _ {N : ℕ} (w : LiveView N) (t : List ℕ) (shut : w.node.phase.is_open ≡ false) where
  ends : (u : LiveView N) (text : List ℕ) (es : List Event) → u.node.phase.is_open ≡ true → fold step_on (Goes u text) es ≡ Goes w t → Ends u es
  unfolding in_front behind_end
  ends u text [] still h = absurd (both u.node.phase.is_open still (ap (λ (x : LiveView N). x.node.phase.is_open) (same_node u w text t h) ∙ shut))
  ends u text (End ∷ es) still h = record { are = refl; within = All-nil (ComesWithin u.scenario u.id) }
  ends u text (Deliver from tick bytes ∷ es) still h =
      let k = taken u text (Deliver from tick bytes) es w t h in
      let on = ends (told u (Deliver from tick bytes)) (text ++ []) es still k.then in
      record {
        are = ap (λ (xs : List Event). Deliver from tick bytes ∷ xs) on.are;
        within = All-cons (ComesWithin u.scenario u.id) (Deliver from tick bytes) (in_front es) (other_told u.scenario.config.nodes u.id from k.known) on.within;
      }
  ends u text (Ahead j x ∷ es) still h =
      let k = taken u text (Ahead j x) es w t h in
      let on = ends (told u (Ahead j x)) (text ++ []) es still k.then in
      let parts = and_parts (is_other u j) (is_some u.scenario.clock) k.known in
      let o = other_told u.scenario.config.nodes u.id j parts.0 in
      record {
        are = ap (λ (xs : List Event). Ahead j x ∷ xs) on.are;
        within = All-cons (ComesWithin u.scenario u.id) (Ahead j x) (in_front es) (o.0, o.1, parts.1) on.within;
      }
  ends u text (Begin o ∷ es) still h = absurd (both u.node.phase.is_open still (not-true u.node.phase.is_open (and_parts (not u.node.phase.is_open) (may_begin u o) (taken u text (Begin o) es w t h).now).0))
  ends u text (Restart ∷ es) still h = absurd (both u.node.phase.is_open still (not-true u.node.phase.is_open (taken u text Restart es w t h).now))
  ends u text (Reading c x ∷ es) still h = absurd (both u.node.phase.is_open still (not-true u.node.phase.is_open (taken u text (Reading c x) es w t h).now))

-- ---- a period

module _ (law : PeriodLaw) {N : ℕ} (w : LiveView N) (t : List ℕ) (shut : w.node.phase.is_open ≡ false) where
  -- the events begin with those of a period, and the node behind it takes the others
  record Begins (v : LiveView N) (r : Rest) (es : List Event) : Type 0 where
    pub period : PeriodEvents
    pub left : List Event
    pub are : es ≡ events_of v.scenario.config.m period ++ left
    pub may : IsAllowed v.scenario v.id (slot_count v.scenario.config.m) r period
    pub less : length left < length es
    pub answered : List ℕ
    pub on : fold step_on (Goes (after_all v r period) answered) left ≡ Goes w t

  module _ (v : LiveView N) (r : Rest) (is : IsScenario v.scenario) (at : Rests v.scenario v.id r v) (text : List ℕ) (es : List Event) (h : fold step_on (Goes v text) es ≡ Goes w t) where
    count : ℕ
    count = 2 * v.scenario.config.m + 4

    abbrev before : List Event
    before = front es

    comes : All (ComesBefore v.scenario v.id) before
    comes = front_comes w t v text es at.between.shut h

    abbrev u : LiveView N
    u = rested v before

    rested_shut : (b : Bool) → (restarted_if b v.node).phase.is_open ≡ false
    rested_shut true = at.between.shut
    rested_shut false = at.between.shut

    behind_on : fold step_on (Goes u text) (behind_front es) ≡ Goes w t
    behind_on =
        sym (ap (fold step_on (Goes v text)) (parts_of es) ∙ fold-append step_on (Goes v text) before (behind_front es)
        ∙ ap (λ (s : Step N). fold step_on s (behind_front es)) (rests v text before at.between.shut comes)) ∙ h

    -- where a begin is behind its front
    module _ (o : Option ℕ) (xs : List Event) (begins : behind_front es ≡ Begin o ∷ xs) where
      abbrev q : PeriodEvents
      q = record { before = before; number = o; slots = slot_in xs }

      begin_on : fold step_on (Goes u text) (Begin o ∷ xs) ≡ Goes w t
      begin_on = ap (fold step_on (Goes u text)) (sym begins) ∙ behind_on

      may_then : (o : Option ℕ) → may_begin u o ≡ true → MayBegin v.scenario v.id r q o
      may_then None e = let l = lt_from v.next (2 ^ 32) e in let k = at.next in omega (arith, l, k)
      may_then (Some n) e = elim (or_cases (n == v.next) _ e) [
        | inl here ↦ inl (eqb-true n v.next here ∙ at.next)
        | inr later ↦
            let k = and_parts (restarts_in before || v.forgot) (nat_lt v.next n) later in
            inr (elim (or_cases (restarts_in before) v.forgot k.0) [ inl y ↦ y | inr f ↦ absurd (both v.forgot f at.forgot) ], let l = lt_from v.next n k.1 in let e = at.next in omega (arith, l, e))
      ]

      number : MayBegin v.scenario v.id r q o
      number = may_then o (and_parts (not u.node.phase.is_open) (may_begin u o) (taken u text (Begin o) xs w t begin_on).now).1

      -- the slots that are over
      record Over (n : ℕ) : Type 0 where
        pub answered : List ℕ
        pub on : fold step_on (Goes (live_at v r q n) answered) (behind_ends xs n) ≡ Goes w t
        pub are : xs ≡ flat_map (in_slot v r q) (range_with_len 0 n) ++ behind_ends xs n
        pub within : (s : ℕ) → s < n → All (ComesWithin v.scenario v.id) (slot_in xs s)

      opened : fold step_on (Goes (live_at v r q 0) (text ++ lines v r q 1)) xs ≡ Goes w t
      opened =
          sym (ap (λ (ys : List Event). fold step_on (Goes v text) ys) (parts_of es ∙ ap (λ (ys : List Event). before ++ ys) begins ∙ sym (append_assoc before (Begin o ∷ []) xs))
          ∙ fold-append step_on (Goes v text) (before ++ Begin o ∷ []) xs
          ∙ ap (λ (s : Step N). fold step_on s xs) (to_begin v r q is law at text comes number)) ∙ h

      -- a slot that is open has an end
      module _ (n : ℕ) (low : n < 2 * v.scenario.config.m + 4) (so_far : Over n) where
        end : Ends (live_at v r q n) (behind_ends xs n)
        end = ends w t shut (live_at v r q n) so_far.answered (behind_ends xs n) ((through v r q is law at).opens n low) so_far.on

        split : behind_ends xs n ≡ in_slot v r q n ++ behind_ends xs (suc n)
        unfolding slot_in behind_ends
        split = end.are ∙ sym (append_assoc (in_front (behind_ends xs n)) (End ∷ []) (behind_end (behind_ends xs n)))

        within_here : All (ComesWithin v.scenario v.id) (slot_in xs n)
        unfolding slot_in
        within_here = end.within

        within_upto : (s : ℕ) → s < suc n → All (ComesWithin v.scenario v.id) (slot_in xs s)
        within_upto s l = elim (cases_lt s n) [
          | inl less ↦ so_far.within s less
          | inr more ↦ subst (λ (k : ℕ). All (ComesWithin v.scenario v.id) (slot_in xs k)) (let e : n ≡ s = omega arith in e) within_here
        ]

        pushed : xs ≡ flat_map (in_slot v r q) (range_with_len 0 (suc n)) ++ behind_ends xs (suc n)
        pushed =
            so_far.are ∙ ap (λ (ys : List Event). flat_map (in_slot v r q) (range_with_len 0 n) ++ ys) split
            ∙ sym (append_assoc (flat_map (in_slot v r q) (range_with_len 0 n)) (in_slot v r q n) (behind_ends xs (suc n)))
            ∙ ap (λ (ys : List Event). ys ++ behind_ends xs (suc n))
            (ap (λ (k : ℕ). flat_map (in_slot v r q) (range_with_len 0 n) ++ in_slot v r q k) (let e : n ≡ 0 + n = omega arith in e) ∙ sym (flat_push (in_slot v r q) 0 n))

        ended_on : (next : LiveView N) (more : List ℕ) → fold step_on (Goes (live_at v r q n) so_far.answered) (in_slot v r q n) ≡ Goes next more → fold step_on (Goes next more) (behind_ends xs (suc n)) ≡ Goes w t
        ended_on next more e =
            sym (ap (fold step_on (Goes (live_at v r q n) so_far.answered)) split
            ∙ fold-append step_on (Goes (live_at v r q n) so_far.answered) (in_slot v r q n) (behind_ends xs (suc n)) ∙ ap (λ (s : Step N). fold step_on s (behind_ends xs (suc n))) e) ∙ so_far.on

      over : (n : ℕ) → n < 2 * v.scenario.config.m + 4 → Over n
      unfolding behind_ends
      over zero low = record { answered = text ++ lines v r q 1; on = opened; are = refl; within = λ s l. absurd (omega arith) }
      over (suc n) low =
          let so_far : Over n = over n (omega arith) in
          record {
            answered = _;
            on = ended_on n (omega arith) so_far _ _ (one_slot v r q is law at n so_far.answered low (within_here n (omega arith) so_far));
            are = pushed n (omega arith) so_far;
            within = within_upto n (omega arith) so_far;
          }

      begins_period : Begins v r es
      begins_period =
          let n : ℕ = 2 * v.scenario.config.m + 3 in
          let all : suc n ≡ 2 * v.scenario.config.m + 4 = omega arith in
          let so_far : Over n = over n (omega arith) in
          record {
            period = q;
            left = behind_ends xs (suc n);
            are = parts_of es ∙ ap (λ (ys : List Event). before ++ ys) (begins ∙ ap (λ (ys : List Event). Begin o ∷ ys) (pushed n (omega arith) so_far))
                ∙ sym (append_assoc before (Begin o ∷ flat_map (in_slot v r q) (range_with_len 0 (suc n))) (behind_ends xs (suc n)))
                ∙ ap (λ (k : ℕ). part_of q k ++ behind_ends xs (suc n)) all;
            may = record { before = comes; number = number; within = λ s l. within_upto n (omega arith) so_far s (omega (arith, l)) };
            less = let a = shorter es in let b : length (behind_front es) ≡ suc (length xs) = ap length begins in let c = fewer_behind xs (suc n) in omega (arith, a, b, c);
            answered = _;
            on = ended_on n (omega arith) so_far _ _ (last_slot v r q is law at n all so_far.answered (within_here n (omega arith) so_far));
          }

    one : All (ComesBefore v.scenario v.id) es ⊎ Begins v r es
    one = elim (behind_begins w t u text es (rested_shut (restarts_in before)) behind_on) [
      | inl none ↦ inl (subst (All (ComesBefore v.scenario v.id)) (sym (parts_of es ∙ ap (λ (ys : List Event). before ++ ys) none ∙ append-nil before)) comes)
      | inr b ↦ inr (begins_period b.0 b.1 b.2)
    ]

  -- ---- all periods

  none : (v : LiveView N) (r : Rest) (es : List Event) → All (ComesBefore v.scenario v.id) es → ArePeriodsOf v.scenario v.id r es
  unfolding AreAllowed
  none v r es rest = record { periods = []; left = es; are = refl; allowed = tt; before = rest }

  further : (v : LiveView N) (r : Rest) (es : List Event) (b : Begins v r es) → ArePeriodsOf v.scenario v.id (after_period v.scenario v.id r b.period) b.left → ArePeriodsOf v.scenario v.id r es
  unfolding AreAllowed
  further v r es b on = record {
    periods = b.period ∷ on.periods;
    left = on.left;
    are = b.are ∙ ap (λ (ys : List Event). events_of v.scenario.config.m b.period ++ ys) on.are ∙ sym (append_assoc (events_of v.scenario.config.m b.period) (flat_map (events_of v.scenario.config.m) on.periods) on.left);
    allowed = (b.may, on.allowed);
    before = on.before;
  }

  parsed : (most : ℕ) (v : LiveView N) (r : Rest) (text : List ℕ) (es : List Event) → length es ≤ most → IsScenario v.scenario → Rests v.scenario v.id r v → fold step_on (Goes v text) es ≡ Goes w t → ArePeriodsOf v.scenario v.id r es
  parsed zero v r text es low is at h = elim (one v r is at text es h) [
    | inl rest ↦ none v r es rest
    | inr b ↦ absurd (let l = b.less in omega (arith, l, low))
  ]
  parsed (suc most) v r text es low is at h = elim (one v r is at text es h) [
    | inl rest ↦ none v r es rest
    | inr b ↦ further v r es b (parsed most (after_all v r b.period) (after_period v.scenario v.id r b.period) b.answered b.left (let l = b.less in omega (arith, l, low)) is (rests_after v r b.period is law at) b.on)
  ]

answered : {N : ℕ} → Step N → List ℕ
answered (Goes w text) = text
answered (Refuses rule) = []

same_text : {N : ℕ} (v w : LiveView N) (s t : List ℕ) → Goes v s ≡ Goes w t → s ≡ t
unfolding answered
same_text v w s t h = ap answered h

pub events_law : PeriodLaw → LiveEventsLaw
events_law law N sc id r v w es text is at takes shut =
    let p : ArePeriodsOf sc id r es =
    subst (λ (s : ScenarioView N). IsScenario s → Rests s id r v → ArePeriodsOf s id r es) at.is_of
    (subst (λ (i : ℕ). IsScenario v.scenario → Rests v.scenario i r v → ArePeriodsOf v.scenario i r es) at.is_node
    (λ is at. parsed law w text shut (length es) v r [] es (omega arith) is at takes)) is at
    in
    let l : AnswersLife sc id r v p.periods = live_life law N sc id r v p.periods is at p.allowed in
    let u : LiveView N = rested l.to p.left in
    let same : Goes u (life_text sc id r p.periods) ≡ Goes w text =
    sym (ap (all_steps v) p.are ∙ fold-append step_on (Goes v []) (flat_map (events_of sc.config.m) p.periods) p.left
    ∙ ap (λ (s : Step N). fold step_on s p.left) l.takes
    ∙ rests l.to (life_text sc id r p.periods) p.left l.rests.between.shut
    (subst (λ (s : ScenarioView N). All (ComesBefore s l.to.id) p.left) (sym l.rests.is_of) (subst (λ (i : ℕ). All (ComesBefore sc i) p.left) (sym l.rests.is_node) p.before))) ∙ takes
    in
    let here : u ≡ w = same_node u w (life_text sc id r p.periods) text same in
    record {
      periods = p.periods;
      left = p.left;
      are = p.are;
      allowed = p.allowed;
      before = p.before;
      answers = sym (same_text u w (life_text sc id r p.periods) text same);
      keeps = ap (λ (x : LiveView N). x.node.kept) (sym here) ∙ (between_restarted sc.config id (restarts_in p.left) (after_life sc id r p.periods).kept l.to.node l.rests.between).keeps;
      next = ap (λ (x : LiveView N). x.next) (sym here) ∙ l.rests.next;
      run = ap (λ (x : LiveView N). x.run) (sym here) ∙ l.rests.run;
    }
