-- The record of a period, from its parts.
use Rattle.std.proofs.Common.{ℕ, suc, ◌≡◌, Bool, true, false, ◌&&◌, List, map, length, refl, sym, ap, subst, ◌∙◌, Option}
use Rattle.std.specs.Prelude.{option_map}
use Rattle.std.proofs.lemmas.List.FromFn.{length-map-range_with_len}
use Rattle.slot_plan.specs.Slots.{slot_count}
use Rattle.clock_skew.specs.Clock.{ClockView}
use Rattle.node_grid.specs.NodeSet.{ids_below}
use Rattle.protocol.specs.Cluster.{view}
use Rattle.protocol.specs.Run.{System, run, sent, classes}
use Rattle.protocol.specs.Safe.{reference, members_at}
use Rattle.node_steps.specs.Stages.{outcome_of}
use Rattle.scenario.specs.Scenario.{ScenarioView, system_of}
use Rattle.cluster_periods.specs.Periods.{sent_in}
use Rattle.cluster_record.specs.Clocking.{offsets_kept, offsets_before}
use Rattle.cluster_record.specs.Filling.{HasShape, IsShownBefore}
use Rattle.cluster_periods.specs.Record.{PeriodView, budget_in, within_in, claimed_before, class_shown, clock_in, without_frames, Shows, period_record}

pub many_slots : (sys : System) (p : ℕ) → length (sent_in sys p) ≡ slot_count sys.setting.config.m
many_slots sys p = length-map-range_with_len (λ t. map (sent sys p t) (ids_below sys.setting.config.nodes)) 0 (slot_count sys.setting.config.m)

pub claimed_now : (sys : System) (p : ℕ) (before within now : Bool) → before ≡ claimed_before sys p → within ≡ within_in sys p → now ≡ (before && within) → now ≡ claimed_before sys (suc p)
unfolding claimed_before
claimed_now sys p before within now hb hw hn = rw (hn, hb, hw) refl

pub shown_is : (sys : System) (clock : Option ClockView) (p : ℕ) (r : PeriodView) → r.period ≡ p → r.nodes ≡ sys.setting.config.nodes → r.m ≡ sys.setting.config.m → r.retire ≡ sys.setting.config.policy.retire → r.reference ≡ reference (run sys) (classes sys) p
    → r.members ≡ members_at (run sys) (classes sys) p → r.budget ≡ budget_in sys p → r.within ≡ within_in sys p → r.claim ≡ claimed_before sys (suc p) → r.classes ≡ map (class_shown sys p) (ids_below sys.setting.capacity)
    → r.records ≡ map (λ i. outcome_of (view (run sys) i p)) (ids_below sys.setting.config.nodes) → r.clock ≡ option_map (λ c. clock_in sys c p) clock
    → ◌≡◌ {A = PeriodView}
    (record { period = r.period; nodes = r.nodes; m = r.m; retire = r.retire; reference = r.reference; members = r.members; budget = r.budget; within = r.within; claim = r.claim; classes = r.classes; records = r.records; sent = r.sent; clock = r.clock })
    (record (period_record sys clock p) { sent = r.sent })
shown_is sys clock p r h1 h2 h3 h4 h5 h6 h7 h8 h9 h10 h11 h12 = rw (h1, h2, h3, h4, h5, h6, h7, h8, h9, h10, h11, h12) refl

-- it has the shape of the configuration's records
pub shape_shown : {N : ℕ} (sc : ScenarioView N) (p : ℕ) → HasShape sc.config (period_record (system_of sc) sc.clock p)
shape_shown sc p = record { nodes = refl; m = refl; retire = refl; slots = many_slots (system_of sc) p }

-- a record that took frames, of a period of which it has those or not
pub shown_before : {N : ℕ} (sc : ScenarioView N) (p : ℕ) (old new : PeriodView) → HasShape sc.config old → old.claim ≡ claimed_before (system_of sc) p → offsets_kept old.clock ≡ offsets_before sc p
    → new ≡ record old { sent = new.sent } → length new.sent ≡ slot_count sc.config.m → IsShownBefore sc p new
shown_before sc p old new shape claimed clocks e many =
    subst (IsShownBefore sc p) (sym e)
    (record { shape = record { nodes = shape.nodes; m = shape.m; retire = shape.retire; slots = many }; claimed = claimed; clocks = clocks })

-- a record that shows a period but for its frames, which are those of the period where they are wanted, shows it so
pub shows_period : (frames : Bool) (t r : PeriodView) (sent : List (List (List ℕ))) → t ≡ record r { sent = sent } → (frames ≡ true → sent ≡ r.sent) → Shows frames t r
shows_period true t r sent e is = e ∙ ap (λ (fs : List (List (List ℕ))). record r { sent = fs }) (is refl)
shows_period false t r sent e is = ap without_frames e

-- its shape and what it shows of the claim and the clocks don't depend on its frames
pub shape_with : {N : ℕ} (sc : ScenarioView N) (p : ℕ) (sent : List (List (List ℕ))) → length sent ≡ slot_count sc.config.m → HasShape sc.config (record (period_record (system_of sc) sc.clock p) { sent = sent })
shape_with sc p sent many = record { nodes = refl; m = refl; retire = refl; slots = many }
