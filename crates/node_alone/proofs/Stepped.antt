-- The node between periods, and what a period of its log makes of it.
use Rattle.std.proofs.Common.{ℕ, suc, ◌≡◌, ◌<◌, ◌+◌, ◌*◌, Bool, true, false, if◌then◌else◌, List, ◌∷◌, drop, refl, sym, ap, ap₂, subst, ◌∙◌, arith}
use Rattle.std.specs.Prelude.{All}
use Rattle.std.proofs.lemmas.List.Elements.{All-weaker}
use Rattle.error_detect.specs.Watching.{of_sender, delivered}
use Rattle.error_detect.specs.Multiset.{Arriving}
use Rattle.fault_classes.specs.Plan.{Plan, restarts_at}
use Rattle.agreed_state.specs.declared.config.Config.{Config}
use Rattle.agreed_state.specs.declared.config.Inputs.{Inputs}
use Rattle.protocol.specs.View.{Kept, nothing, opened}
use Rattle.node_steps.specs.Fresh.{IsFresh}
use Rattle.node_steps.specs.Parts.{NodeView}
use Rattle.protocol.specs.Configured.{setting_of}
use Rattle.node_steps.specs.Steps.{restarted}
use Rattle.node_steps.specs.Stages.{outcome_of}
use Rattle.node_steps.specs.Period.{slots_run, expect_at}
use Rattle.node_steps.specs.Sending.{Fixed, fixed, fixed_of, GoesThrough, PeriodLaw}
use Rattle.scenario.specs.Scenario.{ScenarioView, inputs_of, IsScenario}
use Rattle.node_alone.specs.Log.{Entry, RecordView, arriving, arrivals}
use Rattle.node_alone.specs.View.{received, kept_alone, begins_alone, view_alone}
use Rattle.node_alone.specs.Seen.{IsPlaced, IsRecord}
use Rattle.node_alone.specs.Stepping.{handed, woken, begun_alone, slots_alone, from_slot, IsFromOther, IsReady, IsAloneAt}
use Rattle.node_alone.proofs.Ordering.{from_period}
use Rattle.node_alone.proofs.Told.{told, served_by, valid_begins}

-- ---- waking

woken_same : {N : ℕ} (b : Bool) (v : NodeView N) → fixed (if b then restarted v else v) ≡ fixed v
woken_same true v = refl
woken_same false v = refl

woken_keeps : {N : ℕ} (config : Config N) (b : Bool) (v : NodeView N) (y : Kept) → v.config ≡ config → v.kept ≡ y → (if b then restarted v else v).kept ≡ opened (setting_of config) b y
woken_keeps config true v y c e = ap (λ (z : Config _). nothing (setting_of z)) c
woken_keeps config false v y c e = e

-- where a restart is asked for
pub restart_places : {N : ℕ} (log : RecordView N) → IsRecord log → (sc : ScenarioView N) → sc ≡ log.scenario → (plan : Plan) → plan ≡ sc.plan → (id p : ℕ) → id ≡ log.id → p < log.scenario.periods
    → (id < plan.nodes) × (p < plan.periods)
restart_places {N} log is sc same plan lent id p mine low =
    let nodes : plan.nodes ≡ log.scenario.config.nodes = ap (λ (q : Plan). q.nodes) lent ∙ ap (λ (s : ScenarioView N). s.plan.nodes) same ∙ is.scenario.system.plan_nodes in
    let periods : plan.periods ≡ log.scenario.periods = ap (λ (q : Plan). q.periods) lent ∙ ap (λ (s : ScenarioView N). s.plan.periods) same ∙ is.scenario.plan_periods in
    let inside : log.id < log.scenario.config.nodes = is.id in
    (omega (arith, nodes, mine, inside), omega (arith, periods, low))

-- whether the node restarts, as a plan that is lent says
pub restarting : {N : ℕ} (log : RecordView N) (sc : ScenarioView N) (plan : Plan) (id p : ℕ) (r b : Bool) → sc ≡ log.scenario → plan ≡ sc.plan → id ≡ log.id → r ≡ restarts_at plan id p → r ≡ b
    → restarts_at log.scenario.plan log.id p ≡ b
restarting {N} log sc plan id p r b same lent mine e f =
    sym (ap₂ (λ (q : Plan) (i : ℕ). restarts_at q i p) (lent ∙ ap (λ (s : ScenarioView N). s.plan) same) mine) ∙ sym e ∙ f

pub wakes : {N : ℕ} (log : RecordView N) (p : ℕ) (v w : NodeView N) → restarts_at log.scenario.plan log.id p ≡ true → w ≡ restarted v → w ≡ woken log p v
wakes log p v w b e = e ∙ ap (λ (t : Bool). if t then restarted v else v) (sym b)

pub sleeps : {N : ℕ} (log : RecordView N) (p : ℕ) (v : NodeView N) → restarts_at log.scenario.plan log.id p ≡ false → v ≡ woken log p v
sleeps log p v b = ap (λ (t : Bool). if t then restarted v else v) (sym b)

-- ---- a period

module _ {N : ℕ} (log : RecordView N) (is : IsScenario log.scenario) (law : PeriodLaw) (p : ℕ) (v : NodeView N) (at : IsAloneAt log p v) where
  abbrev config : Config N
  config = log.scenario.config

  abbrev g : Inputs
  g = inputs_of log.scenario log.id p

  abbrev k : Kept
  k = begins_alone log p

  abbrev start : NodeView N
  start = woken log p v

  start_same : fixed start ≡ fixed_of config at.room log.id
  start_same = woken_same (restarts_at log.scenario.plan log.id p) v ∙ at.same

  start_keeps : start.kept ≡ k
  start_keeps = woken_keeps config (restarts_at log.scenario.plan log.id p) v (kept_alone log p) (ap (λ (y : Fixed N). y.config) at.same) at.keeps

  through : GoesThrough config log.id p g k (received log p k) (arrivals log.entries p) start
  through =
      law N config log.id p g k (received log p k) at.room (arrivals log.entries p) start
      (served_by config is.system.capacity is.system.config log.id p g k (received log p k) at.room (arrivals log.entries p)
      (λ t ms due ids small j c r. at.greatest.within (of_sender j (expect_at config log.id p g k (received log p k) t ms due)) c
      (record { nodes_is = refl; m_is = refl; state_len_is = refl; few_due = small; members = ids }) r)
      (told log p k) (valid_begins log is.system.capacity is.system.config p)) start_same start_keeps

  -- the node can be delivered the entries in each slot
  pub ready : All (IsPlaced config.nodes (2 * config.m + 4) log.scenario.periods log.id) log.entries → (t : ℕ) → t < 2 * config.m + 4 → IsReady (slots_alone log p t v) log.entries
  ready placed t low =
      let same : fixed (slots_alone log p t v) ≡ fixed_of config at.room log.id = through.stays t ∙ start_same in
      let nodes : (slots_alone log p t v).config.nodes ≡ config.nodes = ap (λ (y : Fixed N). y.config.nodes) same in
      let me : (slots_alone log p t v).phase.me ≡ log.id = ap (λ (y : Fixed N). y.me) same in
      record {
        is_open = through.opens t low;
        others = All-weaker (IsPlaced config.nodes (2 * config.m + 4) log.scenario.periods log.id) (IsFromOther (slots_alone log p t v).config.nodes (slots_alone log p t v).phase.me)
            (λ e h. record { from = let f = h.from in omega (arith, f, nodes); other = λ q. h.other (q ∙ me) }) log.entries placed;
      }

  pub after : IsAloneAt log (suc p) (slots_alone log p (2 * config.m + 4) v)
  unfolding kept_alone
  after = record {
    room = at.room;
    greatest = at.greatest;
    same = through.stays (2 * config.m + 4) ∙ start_same;
    keeps = through.over.kept;
    shut = through.over.shut;
  }

  pub shown : (slots_alone log p (2 * config.m + 4) v).outcome ≡ outcome_of (view_alone log p)
  shown = through.over.outcome

-- ---- the start

pub at_start : {N : ℕ} (log : RecordView N) (v : NodeView N) → IsFresh log.scenario.config log.id v → IsAloneAt log 0 v
unfolding kept_alone
at_start log v fresh = record { room = v.arrived.frame_max; greatest = fresh.greatest; same = fresh.is; keeps = fresh.kept; shut = fresh.shut }

-- ---- deliveries

-- what a node is after a delivery, and after those that are left
pub handed_next : {N : ℕ} (v w : NodeView N) (e : Entry) (ds : List Arriving) → w ≡ record v { arrived = delivered v.arrived e.from e.tick e.bytes } → handed w ds ≡ handed v (arriving e ∷ ds)
handed_next v w e ds h = ap (λ (y : NodeView _). handed y ds) h

-- ---- through a period

-- the node after a period, by how it began and ended
module _ {N : ℕ} (log : RecordView N) (is : IsRecord log) (law : PeriodLaw) (p : ℕ) (v b : NodeView N) (at : IsAloneAt log p v) (begins : b ≡ begun_alone log p v) (es : List Entry) (same : es ≡ log.entries) where
  pub ready_here : (t : ℕ) → t < 2 * log.scenario.config.m + 4 → IsReady (slots_run (arrivals es p) t b) es
  ready_here t low =
      subst (λ (xs : List Entry). IsReady (slots_run (arrivals xs p) t b) xs) (sym same)
      (subst (λ (y : NodeView N). IsReady (slots_run (arrivals log.entries p) t y) log.entries) (sym begins) (ready log is.scenario law p v at is.placed t low))

  -- it ends as the slots leave it
  end_is : (w : NodeView N) (count : ℕ) → count ≡ 2 * log.scenario.config.m + 4 → w ≡ slots_run (arrivals es p) count b → w ≡ slots_alone log p (2 * log.scenario.config.m + 4) v
  end_is w count long h =
      h ∙ ap (λ (n : ℕ). slots_run (arrivals es p) n b) long ∙ ap (λ (xs : List Entry). slots_run (arrivals xs p) (2 * log.scenario.config.m + 4) b) same
      ∙ ap (slots_run (arrivals log.entries p) (2 * log.scenario.config.m + 4)) begins

  pub after_here : (w : NodeView N) (count : ℕ) → count ≡ 2 * log.scenario.config.m + 4 → w ≡ slots_run (arrivals es p) count b → IsAloneAt log (p + 1) w
  after_here w count long h =
      subst (λ (n : ℕ). IsAloneAt log n w) (let e : suc p ≡ p + 1 = omega arith in e) (subst (IsAloneAt log (suc p)) (sym (end_is w count long h)) (after log is.scenario law p v at))

  pub shown_here : (w : NodeView N) (count : ℕ) → count ≡ 2 * log.scenario.config.m + 4 → w ≡ slots_run (arrivals es p) count b → w.outcome ≡ outcome_of (view_alone log p)
  shown_here w count long h = ap (λ (y : NodeView N). y.outcome) (end_is w count long h) ∙ shown log is.scenario law p v at

  pub rest_here : (n count : ℕ) → count ≡ 2 * log.scenario.config.m + 4 → drop n es ≡ from_slot p count es → drop n log.entries ≡ from_slot (p + 1) 0 log.entries
  rest_here n count long h =
      ap (drop n) (sym same) ∙ h ∙ ap₂ (λ (k : ℕ) (xs : List Entry). from_slot p k xs) long same
      ∙ from_period log.scenario.config.nodes (2 * log.scenario.config.m + 4) log.scenario.periods log.id p log.entries is.placed
      ∙ ap (λ (k : ℕ). from_slot k 0 log.entries) (let e : suc p ≡ p + 1 = omega arith in e)
