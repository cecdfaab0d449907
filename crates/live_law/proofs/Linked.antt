-- Controllers that are linked by a network go through the periods of the run of its plan.
use Rattle.std.proofs.Common.{ℕ, zero, suc, ◌≡◌, ◌≢◌, ◌<◌, ◌+◌, ◌*◌, Bool, true, if◌then◌else◌, List, refl, sym, ap, ap₂, subst, ◌∙◌, inl, inr, arith}
use Rattle.std.specs.Prelude.{nat_lt}
use Rattle.std.proofs.lemmas.Bool.{cases_Bool, cases_lt, cond-true, cond-false}
use Rattle.node_grid.specs.Capacity.{IsCapacity}
use Rattle.node_grid.specs.NumberFacts.{lt_yes, lt_from}
use Rattle.error_detect.specs.Multiset.{Arriving, from_sender}
use Rattle.fault_classes.specs.Line.{effect_at}
use Rattle.fault_classes.specs.Plan.{restarts_at}
use Rattle.fault_link.specs.Arrival.{delivered_of}
use Rattle.agreed_state.specs.declared.config.Config.{Config}
use Rattle.agreed_state.specs.Config.{IsConfig}
use Rattle.protocol.specs.View.{Kept, first_kept, opened}
use Rattle.protocol.specs.Cluster.{kept, begins}
use Rattle.protocol.specs.Run.{System, run, sent, deliveries}
use Rattle.protocol.specs.Configured.{setting_of}
use Rattle.safety.specs.Talk.{DeliveryLaw, SayingLaw}
use Rattle.node_steps.specs.Parts.{NodeView}
use Rattle.node_steps.specs.Steps.{frame_of, begun}
use Rattle.node_steps.specs.Period.{slot_run, slots_run}
use Rattle.node_steps.specs.Living.{restarted_if}
use Rattle.node_steps.specs.Sending.{PeriodLaw}
use Rattle.scenario.specs.Scenario.{ScenarioView}
use Rattle.cluster_periods.specs.Slots.{arrivals}
use Rattle.cluster_periods.proofs.Arriving.{from_each}
use Rattle.live_law.specs.Periods.{IsBetween}
use Rattle.live_law.specs.Run.{system_given, IsDelivered}
use Rattle.live_law.proofs.Controllers.{Controllers, said, Hears, AreLinked, IsOfRun}
use Rattle.live_law.proofs.Lives.{between_restarted}
use Rattle.live_law.proofs.OfRun.{through_run, says_sent, between_runs}

-- so many slots depend on what is delivered in them alone
slots_alike : {N : ℕ} (ds es : ℕ → List Arriving) (t : ℕ) (v : NodeView N) → ((s : ℕ) → s < t → ds s ≡ es s) → slots_run ds t v ≡ slots_run es t v
slots_alike ds es zero v h = refl
slots_alike {N} ds es (suc t) v h = ap₂ (λ (w : NodeView N) (xs : List Arriving). slot_run w xs) (slots_alike ds es t v (λ s l. h s (omega arith))) (h t (omega arith))

module _ {N : ℕ} (sc : ScenarioView N) (c : Controllers N) (capacity : IsCapacity N) (is : IsConfig N sc.config) (law : PeriodLaw) (delivery : DeliveryLaw) (saying : SayingLaw) (linked : AreLinked sc c) where
  abbrev config : Config N
  config = sc.config

  abbrev sys : System
  sys = system_given sc c.inputs

  -- node i as it begins period p
  abbrev woken : ℕ → ℕ → NodeView N
  woken i p = restarted_if (restarts_at sc.plan i p) (c.node i p)

  -- it goes into it with what the run says
  abbrev Begins : ℕ → ℕ → Type 0
  Begins i p = IsBetween config i (begins (run sys) i p) (woken i p)

  -- ---- a period into which all go so

  module _ (p : ℕ) (before : (i : ℕ) → i < config.nodes → 0 < c.ran i p → Begins i p) where
    -- what one of them says is what is sent
    abbrev Says : ℕ → ℕ → Type 0
    Says t i = said sc c i p t ≡ sent sys p t i

    -- what comes is what the run delivers, where the sender says what is sent
    comes : (i j t : ℕ) → i < config.nodes → j < config.nodes → j ≢ i → t < 2 * config.m + 4 → t < c.ran i p → (t < c.ran j p → Says t j) → from_sender j (c.delivered i p t) ≡ deliveries sys p t j i
    comes i j t li lj ne slot low says =
        let h : Hears sc c i j p t = linked.hear i j p t li lj ne slot low in
        elim (cases_lt t (c.ran j p)) [
          | inl up ↦ h.spoken up ∙ ap (delivered_of (effect_at sc.plan.lines p t j i)) (says up)
          | inr down ↦ let d = h.silent (omega arith) in d.0 ∙ sym (d.1 (sent sys p t j))
        ]

    -- so a node says what is sent, where all that spoke before did
    module _ (t i : ℕ) (li : i < config.nodes) (slot : t < 2 * config.m + 4) (low : t < c.ran i p) (earlier : (s j : ℕ) → s < t → j < config.nodes → s < c.ran j p → Says s j) where
      -- what was delivered so far, and behind it what the run delivers
      abbrev mixed : ℕ → List Arriving
      mixed s = if nat_lt s t then c.delivered i p s else arrivals sc.plan 0 config.nodes p s (sent sys p s) i

      mixed_comes : IsDelivered sys i p mixed
      mixed_comes = record {
        each = λ s j ls lj ne. elim (cases_Bool (nat_lt s t)) [
          | inl y ↦
              let l : s < t = lt_from s t y in
              ap (from_sender j) (cond-true (nat_lt s t) (c.delivered i p s) (arrivals sc.plan 0 config.nodes p s (sent sys p s) i) y)
              ∙ comes i j s li lj ne ls (omega arith) (λ up. earlier s j l lj up)
          | inr n ↦
              ap (from_sender j) (cond-false (nat_lt s t) (c.delivered i p s) (arrivals sc.plan 0 config.nodes p s (sent sys p s) i) n)
              ∙ from_each sc.plan p s (sent sys p s) i j 0 config.nodes (omega arith) lj ne
        ];
      }

      so_far : slots_run (c.delivered i p) t (begun (woken i p) p (c.inputs i p)) ≡ slots_run mixed t (begun (woken i p) p (c.inputs i p))
      so_far = slots_alike (c.delivered i p) mixed t (begun (woken i p) p (c.inputs i p)) (λ s l. sym (cond-true (nat_lt s t) (c.delivered i p s) (arrivals sc.plan 0 config.nodes p s (sent sys p s) i) (lt_yes s t l)))

      says_then : Says t i
      says_then = ap frame_of so_far ∙ says_sent sc c.inputs capacity is law delivery saying i p mixed mixed_comes (woken i p) (before i li (omega arith)) t slot

    -- slot by slot
    says_upto : (n t i : ℕ) → t < n → i < config.nodes → t < 2 * config.m + 4 → t < c.ran i p → Says t i
    says_upto zero t i ln li slot low = absurd (omega arith)
    says_upto (suc n) t i ln li slot low = says_then t i li slot low (λ s j l lj up. says_upto n s j (omega arith) lj (omega arith) up)

    says_all : (t i : ℕ) → i < config.nodes → t < 2 * config.m + 4 → t < c.ran i p → Says t i
    says_all t i li slot low = says_upto (suc t) t i (omega arith) li slot low

    -- all that comes to a node that runs the whole of it
    all_come : (i : ℕ) → i < config.nodes → c.ran i p ≡ 2 * config.m + 4 → IsDelivered sys i p (c.delivered i p)
    all_come i li whole = record { each = λ t j slot lj ne. comes i j t li lj ne slot (omega arith) (λ up. says_all t j lj slot up) }

    pub of_run : (i : ℕ) → i < config.nodes → 0 < c.ran i p → IsOfRun sc c i p
    of_run i li some = record {
      goes_in = (before i li some).keeps;
      delivered = λ whole. all_come i li whole;
      frames = λ t slot low. says_all t i li slot low;
      over = λ whole. (through_run sc c.inputs capacity is law delivery saying i p (c.delivered i p) (all_come i li whole) (woken i p) (before i li some)).over;
      between = λ whole. between_runs sc c.inputs capacity is law delivery saying i p (c.delivered i p) (all_come i li whole) (woken i p) (before i li some);
    }

  -- ---- period by period

  anew : (i p : ℕ) (k : Kept) → restarts_at sc.plan i p ≡ true → IsBetween config i k (c.node i p) → Begins i p
  anew i p k restarts at =
      let w = between_restarted config i (restarts_at sc.plan i p) k (c.node i p) at in
      subst (λ (y : Kept). IsBetween config i y (woken i p)) (ap (λ (b : Bool). opened (setting_of config) b k) restarts ∙ sym (ap (λ (b : Bool). opened (setting_of config) b (kept (run sys) i p)) restarts)) w

  pub begin_all : (p i : ℕ) → i < config.nodes → 0 < c.ran i p → Begins i p
  unfolding kept
  begin_all zero i li some = elim (linked.begin i 0 li some) [
    | inl on ↦ between_restarted config i (restarts_at sc.plan i 0) (first_kept (setting_of config)) (c.node i 0) on
    | inr new ↦ anew i 0 new.keeps new.restarts new.between
  ]
  begin_all (suc p) i li some = elim (linked.begin i (suc p) li some) [
    | inl on ↦
        let last = (of_run p (λ j lj up. begin_all p j lj up) i li (let w = on.0 in omega arith)).between on.0 in
        between_restarted config i (restarts_at sc.plan i (suc p)) (kept (run sys) i (suc p)) (c.node i (suc p)) (subst (IsBetween config i (kept (run sys) i (suc p))) (sym on.1) last)
    | inr new ↦ anew i (suc p) new.keeps new.restarts new.between
  ]

-- Law: nodes that are linked are the run of the plan, in each period in which they run, for however many periods
pub link_law : PeriodLaw → DeliveryLaw → SayingLaw → (N : ℕ) (sc : ScenarioView N) (c : Controllers N) → IsCapacity N → IsConfig N sc.config → AreLinked sc c → (i p : ℕ) → i < sc.config.nodes → 0 < c.ran i p → IsOfRun sc c i p
link_law law delivery saying N sc c capacity is linked i p li some =
    of_run sc c capacity is law delivery saying linked p (λ j lj up. begin_all sc c capacity is law delivery saying linked p j lj up) i li some
