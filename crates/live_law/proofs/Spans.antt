-- A period of a live node, event by event.
use Rattle.std.proofs.Common.{ℕ, zero, suc, ◌≡◌, ◌<◌, ◌+◌, ◌*◌, ◌^◌, ◌==◌, ◌&&◌, ◌||◌, Bool, true, false, not, if◌then◌else◌, List, [], ◌∷◌, ◌++◌, map, replicate, refl, sym, ap, ap₂, subst, ◌∙◌, inl, inr, arith, eq-eqb, Option, None, Some, ℤ, pos}
use Rattle.std.specs.Prelude.{All, is_some, unwrap_or, slice_index_or}
use Rattle.std.specs.List.{fold, filter, flat_map, range_with_len}
use Rattle.std.proofs.lemmas.Bool.{cond-true, cond-false, or_left, or_right}
use Rattle.std.proofs.lemmas.List.{append_assoc, append-nil}
use Rattle.std.proofs.lemmas.List.Sums.{fold-append}
use Rattle.node_grid.specs.NumberFacts.{lt_yes}
use Rattle.error_detect.specs.Multiset.{Arriving, all_delivered}
use Rattle.agreed_state.specs.declared.config.Config.{Config}
use Rattle.agreed_state.specs.declared.config.Inputs.{Inputs}
use Rattle.protocol.specs.Clocks.{corrects}
use Rattle.protocol.specs.View.{channel_room}
use Rattle.node_steps.specs.Outcome.{Outcome}
use Rattle.node_steps.specs.Parts.{NodeView}
use Rattle.node_steps.specs.Steps.{begun, after_slot}
use Rattle.node_steps.specs.FixedLaws.{slots_period}
use Rattle.node_steps.specs.Living.{restarted_if}
use Rattle.node_steps.specs.Period.{slots_run}
use Rattle.node_steps.specs.Sending.{Fixed, GoesThrough, PeriodLaw}
use Rattle.node_steps.specs.Stages.{outcome_of}
use Rattle.node_steps.proofs.Turns.{IsAt, turned}
use Rattle.scenario.specs.Scenario.{IsScenario, inputs_of}
use Rattle.run_text.specs.PeriodText.{alone_text}
use Rattle.live_node.specs.Event.{Event}
use Rattle.live_node.specs.Event.Event.{Begin, End}
use Rattle.live_node.specs.Live.{LiveView, Step, told, may_begin, slot_answer, replaced}
use Rattle.live_node.specs.Live.Step.{Goes}
use Rattle.live_node.specs.Text.{say_text, correct_text}
use Rattle.live_law.specs.Received.{received}
use Rattle.live_law.specs.Periods.{Next, begins_next, begun_next}
use Rattle.live_law.specs.Events.{step_on, PeriodEvents, part_of, events_of, restarts_in}
use Rattle.live_law.specs.Living.{Rest, Rests, IsAllowed, SaysSlots, MayBegin, ComesBefore, ComesWithin, number_told, next_told, frame_told, ahead_told, view_told, period_text, after_period}
use Rattle.live_law.proofs.Lists.{flat_push}
use Rattle.live_law.proofs.Lives.{goes_next, between_after}
use Rattle.live_law.proofs.Steps.{goes, rested, rests, readings_are, heard, hears, put_ahead, put_reading, aheads_are}

-- ---- the number of the open slot

starts_at : {N : ℕ} (v : NodeView N) (p : ℕ) (g : Inputs) (ds : ℕ → List Arriving) (t : ℕ) → t < 2 * v.config.m + 4 → IsAt v.config v.phase.me t (slots_run ds t (begun v p g))
starts_at v p g ds zero low = record { config = refl; me = refl; slot = λ l. refl; open_still = λ l. refl; over = λ e. absurd (omega arith) }
starts_at {N} v p g ds (suc t) low =
    let u : NodeView N = slots_run ds t (begun v p g) in
    let u' : NodeView N = record u { arrived = all_delivered u.arrived (ds t) } in
    let before : IsAt v.config v.phase.me t u = starts_at v p g ds t (omega arith) in
    let here : IsAt v.config v.phase.me t u' = record { config = before.config; me = before.me; slot = before.slot; open_still = before.open_still; over = before.over } in
    subst (λ (n : ℕ). IsAt v.config v.phase.me n (after_slot u')) (let e : t + 1 ≡ suc t = omega arith in e) (turned v.config v.phase.me t u' (omega arith) here)

-- ---- a live node, and a period that it may be told

module _ {N : ℕ} (v : LiveView N) (r : Rest) (q : PeriodEvents) where
  abbrev config : Config N
  config = v.scenario.config

  abbrev p : ℕ
  p = number_told v.scenario v.id r q

  abbrev next : Next
  next = next_told v.scenario v.id r q

  abbrev first : NodeView N
  first = begun_next config v.id v.node next

  -- with so many slots over
  abbrev pub live_at : ℕ → LiveView N
  live_at t = record v {
    node = slots_run next.slots t first;
    next = p + 1;
    forgot = false;
    given = replicate channel_room None;
    ahead = fold put_ahead (replicate N None) (flat_map q.slots (range_with_len 0 t));
  }

  -- and with all over
  abbrev pub after_all : LiveView N
  after_all = record (live_at (2 * config.m + 4)) { run = v.run + 1 }

  abbrev line : ℕ → List ℕ
  line t = say_text t (frame_told v.scenario v.id r q t)

  abbrev pub lines : ℕ → List ℕ
  lines n = flat_map line (range_with_len 0 n)

  abbrev pub in_slot : ℕ → List Event
  in_slot t = q.slots t ++ End ∷ []

  module _ (is : IsScenario v.scenario) (law : PeriodLaw) (at : Rests v.scenario v.id r v) where
    abbrev Within : ℕ → Type 0
    Within t = All (ComesWithin v.scenario v.id) (q.slots t)

    abbrev Before : Type 0
    Before = All (ComesBefore v.scenario v.id) q.before

    pub through : GoesThrough config v.id p next.inputs (begins_next config v.id r.kept next) (received config v.id p next.inputs (begins_next config v.id r.kept next) next.slots) next.slots (restarted_if next.restarts v.node)
    through = goes_next law config v.id is.system.capacity is.system.config r.kept v.node next at.between

    woken_config : (b : Bool) → (restarted_if b v.node).config ≡ config
    woken_config true = ap (λ (f : Fixed N). f.config) at.between.same
    woken_config false = ap (λ (f : Fixed N). f.config) at.between.same

    slot_is : (t : ℕ) → t < 2 * config.m + 4 → (slots_run next.slots t first).phase.slot ≡ t
    slot_is t low =
        let e : (restarted_if next.restarts v.node).config.m ≡ config.m = ap (λ (z : Config N). z.m) (woken_config next.restarts) in
        (starts_at (restarted_if next.restarts v.node) p next.inputs next.slots t (omega (arith, low, e))).slot (omega (arith, low, e))

    -- what it says in a slot
    says : (t : ℕ) → t < 2 * config.m + 4 → slot_answer (live_at t) ≡ line t
    says t low = cond-true (live_at t).node.phase.is_open _ _ (through.opens t low) ∙ ap₂ say_text (slot_is t low) (through.frames t low)

    -- ---- the begin

    number_is : unwrap_or q.number v.next ≡ p
    number_is = ap (unwrap_or q.number) at.next

    abbrev start : ℕ → List (Option ℤ) → LiveView N
    start n given = record v {
      node = begun (restarted_if next.restarts v.node) n (record (inputs_of v.scenario v.id n) { reading = replaced given (inputs_of v.scenario v.id n).reading });
      next = n + 1;
      forgot = false;
      given = replicate channel_room None;
      ahead = replicate N None;
    }

    begins : told (rested v q.before) (Begin q.number) ≡ live_at 0
    begins = ap₂ start number_is (ap (λ (xs : List (Option ℤ)). fold put_reading xs q.before) at.given ∙ readings_are q.before)

    may_now : (o : Option ℕ) → MayBegin v.scenario v.id r q o → may_begin (rested v q.before) o ≡ true
    may_now None low = lt_yes v.next (2 ^ 32) (let e = at.next in omega (arith, e, low))
    may_now (Some n) h = elim h [
      | inl e ↦ or_left (n == v.next) _ (eq-eqb n v.next (e ∙ sym at.next))
      | inr f ↦ or_right (n == v.next) _ (ap₂ (λ (a b : Bool). (a || v.forgot) && b) f.0 (lt_yes v.next n (let e = at.next in let l = f.1 in omega (arith, e, l))))
    ]

    pub still_shut : (b : Bool) → (restarted_if b v.node).phase.is_open ≡ false
    still_shut true = at.between.shut
    still_shut false = at.between.shut

    pub to_begin : (text : List ℕ) → Before → MayBegin v.scenario v.id r q q.number → fold step_on (Goes v text) (q.before ++ Begin q.number ∷ []) ≡ Goes (live_at 0) (text ++ lines 1)
    to_begin text before number =
        fold-append step_on (Goes v text) q.before (Begin q.number ∷ [])
        ∙ ap (λ (s : Step N). step_on s (Begin q.number)) (rests v text q.before at.between.shut before)
        ∙ goes (rested v q.before) text (Begin q.number) refl (ap₂ (λ (a b : Bool). not a && b) (still_shut (restarts_in q.before)) (may_now q.number number))
        ∙ ap (λ (w : LiveView N). Goes w (text ++ slot_answer w)) begins
        ∙ ap (λ (more : List ℕ). Goes (live_at 0) (text ++ more)) (says 0 (omega arith) ∙ sym (append-nil (line 0)))

    -- ---- a slot

    ahead_next : (t : ℕ) → fold put_ahead (live_at t).ahead (q.slots t) ≡ (live_at (suc t)).ahead
    ahead_next t =
        sym (fold-append put_ahead (replicate N None) (flat_map q.slots (range_with_len 0 t)) (q.slots t))
        ∙ ap (λ (es : List Event). fold put_ahead (replicate N None) es) (ap (λ (k : ℕ). flat_map q.slots (range_with_len 0 t) ++ q.slots k) (let e : t ≡ 0 + t = omega arith in e) ∙ sym (flat_push q.slots 0 t))

    -- its end, with this for the next state
    abbrev ended : ℕ → List (Option ℤ) → ℕ → LiveView N
    ended t ahead run = record (live_at (suc t)) { ahead = ahead; run = run }

    to_end : (t : ℕ) (text : List ℕ) → t < 2 * config.m + 4 → Within t
        → fold step_on (Goes (live_at t) text) (in_slot t) ≡ Goes (told (heard (live_at t) (q.slots t)) End) (text ++ slot_answer (told (heard (live_at t) (q.slots t)) End))
    to_end t text low within =
        fold-append step_on (Goes (live_at t) text) (q.slots t) (End ∷ [])
        ∙ ap (λ (s : Step N). step_on s End) (hears (live_at t) text (q.slots t) (through.opens t low) within)
        ∙ goes (heard (live_at t) (q.slots t)) text End refl (through.opens t low)

    goes_on : (t : ℕ) → suc t < 2 * config.m + 4 → told (heard (live_at t) (q.slots t)) End ≡ live_at (suc t)
    goes_on t low = ap₂ (ended t) (ahead_next t) (cond-true (live_at (suc t)).node.phase.is_open v.run (v.run + 1) (through.opens (suc t) low))

    pub one_slot : (t : ℕ) (text : List ℕ) → suc t < 2 * config.m + 4 → Within t → fold step_on (Goes (live_at t) text) (in_slot t) ≡ Goes (live_at (suc t)) (text ++ line (suc t))
    one_slot t text low within =
        to_end t text (omega arith) within ∙ ap (λ (w : LiveView N). Goes w (text ++ slot_answer w)) (goes_on t low)
        ∙ ap (λ (more : List ℕ). Goes (live_at (suc t)) (text ++ more)) (says (suc t) low)

    so_many : (n : ℕ) (text : List ℕ) → n < 2 * config.m + 4 → ((t : ℕ) → t < n → Within t) → fold step_on (Goes (live_at 0) (text ++ lines 1)) (flat_map in_slot (range_with_len 0 n)) ≡ Goes (live_at n) (text ++ lines (suc n))
    so_many zero text low within = refl
    so_many (suc n) text low within =
        ap (fold step_on (Goes (live_at 0) (text ++ lines 1))) (flat_push in_slot 0 n ∙ ap (λ (k : ℕ). flat_map in_slot (range_with_len 0 n) ++ in_slot k) (let e : 0 + n ≡ n = omega arith in e))
        ∙ fold-append step_on (Goes (live_at 0) (text ++ lines 1)) (flat_map in_slot (range_with_len 0 n)) (in_slot n)
        ∙ ap (λ (s : Step N). fold step_on s (in_slot n)) (so_many n text (omega arith) (λ t l. within t (omega arith)))
        ∙ one_slot n (text ++ lines (suc n)) low (within n (omega arith))
        ∙ ap (Goes (live_at (suc n))) (append_assoc text (lines (suc n)) (line (suc n)) ∙ ap (λ (ys : List ℕ). text ++ ys) (ap (λ (k : ℕ). lines (suc n) ++ line k) (let e : suc n ≡ 0 + suc n = omega arith in e) ∙ sym (flat_push line 0 (suc n))))

    -- the events up to the end of so many slots
    parted : (n : ℕ) (text : List ℕ) → Before → MayBegin v.scenario v.id r q q.number → fold step_on (Goes v text) (part_of q n) ≡ fold step_on (Goes (live_at 0) (text ++ lines 1)) (flat_map in_slot (range_with_len 0 n))
    parted n text before number =
        ap (fold step_on (Goes v text)) (sym (append_assoc q.before (Begin q.number ∷ []) (flat_map in_slot (range_with_len 0 n))))
        ∙ fold-append step_on (Goes v text) (q.before ++ Begin q.number ∷ []) (flat_map in_slot (range_with_len 0 n))
        ∙ ap (λ (s : Step N). fold step_on s (flat_map in_slot (range_with_len 0 n))) (to_begin text before number)

    pub says_so_far : (n : ℕ) → n < 2 * config.m + 4 → IsAllowed v.scenario v.id n r q → SaysSlots v.scenario v.id r v q n
    says_so_far n low may = record {
      to = live_at n;
      takes = parted n [] may.before may.number ∙ so_many n [] low may.within;
      still = through.opens n low;
      slot = slot_is n low;
      frame = through.frames n low;
    }

    -- ---- the last slot

    abbrev shown_by : ℕ → Outcome → List (Option ℤ) → List ℕ
    shown_by n o ahead =
        alone_text n v.id config.nodes config.policy.retire o
        ++ (if is_some v.scenario.clock then correct_text (corrects config.m v.id (map (λ y. unwrap_or y (pos 0)) ahead) o.members (filter (λ j. is_some (slice_index_or ahead j None)) o.sync) o.mode) else [])

    abbrev pub shown : List ℕ
    shown = shown_by p (outcome_of (view_told v.scenario v.id r q)) (ahead_told v.scenario v.id r q)

    -- so many slots are all
    module _ (t : ℕ) (all : suc t ≡ 2 * config.m + 4) where
      shut : (live_at (suc t)).node.phase.is_open ≡ false
      shut = ap (λ (n : ℕ). (live_at n).node.phase.is_open) all ∙ through.over.shut

      ends : told (heard (live_at t) (q.slots t)) End ≡ after_all
      ends = ap₂ (ended t) (ahead_next t) (cond-false (live_at (suc t)).node.phase.is_open v.run (v.run + 1) shut) ∙ ap (λ (n : ℕ). record (live_at n) { run = v.run + 1 }) all

      shows : slot_answer after_all ≡ shown
      shows =
          cond-false after_all.node.phase.is_open _ _ through.over.shut
          ∙ ap₂ (λ (n : ℕ) (o : Outcome). shown_by n o after_all.ahead) (slots_period next.slots (2 * config.m + 4) first) through.over.outcome
          ∙ ap (shown_by p (outcome_of (view_told v.scenario v.id r q))) (aheads_are N (flat_map q.slots (range_with_len 0 (2 * config.m + 4))))

      pub last_slot : (text : List ℕ) → Within t → fold step_on (Goes (live_at t) text) (in_slot t) ≡ Goes after_all (text ++ shown)
      last_slot text within = to_end t text (omega arith) within ∙ ap (λ (w : LiveView N). Goes w (text ++ slot_answer w)) ends ∙ ap (λ (more : List ℕ). Goes after_all (text ++ more)) shows

      all_slots : (text : List ℕ) → ((s : ℕ) → s < 2 * config.m + 4 → Within s) → fold step_on (Goes (live_at 0) (text ++ lines 1)) (flat_map in_slot (range_with_len 0 (2 * config.m + 4))) ≡ Goes after_all (text ++ lines (2 * config.m + 4) ++ shown)
      all_slots text within =
          ap (λ (n : ℕ). fold step_on (Goes (live_at 0) (text ++ lines 1)) (flat_map in_slot (range_with_len 0 n))) (sym all)
          ∙ ap (fold step_on (Goes (live_at 0) (text ++ lines 1))) (flat_push in_slot 0 t ∙ ap (λ (k : ℕ). flat_map in_slot (range_with_len 0 t) ++ in_slot k) (let e : 0 + t ≡ t = omega arith in e))
          ∙ fold-append step_on (Goes (live_at 0) (text ++ lines 1)) (flat_map in_slot (range_with_len 0 t)) (in_slot t)
          ∙ ap (λ (s : Step N). fold step_on s (in_slot t)) (so_many t text (omega arith) (λ s l. within s (omega arith)))
          ∙ last_slot (text ++ lines (suc t)) (within t (omega arith))
          ∙ ap (λ (n : ℕ). Goes after_all (text ++ lines n ++ shown)) all

    -- ---- the whole period

    pub whole : (text : List ℕ) → IsAllowed v.scenario v.id (2 * config.m + 4) r q → fold step_on (Goes v text) (events_of config.m q) ≡ Goes after_all (text ++ period_text v.scenario v.id r q)
    whole text may =
        parted (2 * config.m + 4) text may.before may.number ∙ all_slots (2 * config.m + 3) (omega arith) text may.within
        ∙ ap (Goes after_all) (append_assoc text (lines (2 * config.m + 4)) shown)

    pub rests_after : Rests v.scenario v.id (after_period v.scenario v.id r q) after_all
    rests_after = record {
      is_of = refl;
      is_node = refl;
      between = between_after law config v.id is.system.capacity is.system.config r.kept v.node next at.between;
      next = refl;
      run = ap (λ (n : ℕ). n + 1) at.run;
      forgot = refl;
      given = refl;
    }
