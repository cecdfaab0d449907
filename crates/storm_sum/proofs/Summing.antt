-- One period more, and all of them.
use Rattle.std.proofs.Common.{◌≡◌, ℕ, suc, ◌+◌, ◌-◌, ◌<◌, ◌≤◌, List, length, Option, Some, refl, sym, ap, ◌∙◌, subst, arith}
use Rattle.std.specs.Prelude.{option_and_then, slice_get}
use Rattle.node_steps.specs.Outcome.{Outcome}
use Rattle.node_grid.specs.Count.{bit}
use Rattle.node_grid.specs.ListLaws.{bit_le}
use Rattle.clock_skew.specs.Clock.{ClockView}
use Rattle.agreed_state.specs.Agreed.{AgreedView}
use Rattle.protocol.specs.Run.{System, members_in}
use Rattle.scenario.specs.Scenario.{ScenarioView, system_of}
use Rattle.run_text.specs.StormText.{StormView}
use Rattle.cluster_periods.specs.Record.{PeriodView, without_frames, period_record}
use Rattle.cluster_record.proofs.Members.{reference_low}
use Rattle.shown_period.specs.declared.shown.Shown.{Shown}
use Rattle.shown_period.specs.Outcomes.{outcome_at}
use Rattle.shown_period.specs.Whole.{record_of}
use Rattle.shown_period.specs.WholeLaws.{shown_at}
use Rattle.storm_sum.specs.declared.sums.Sums.{Sums}
use Rattle.storm_sum.specs.Summary.{how_many, total, state_after, excluded, readmitted, counts_in, summary_of}
use Rattle.storm_sum.specs.Summing.{is_claimed_at, excluded_at, readmitted_at, state_at, AreSums}
use Rattle.storm_sum.proofs.Totals.{how_many_more, how_many_none, total_more, total_none}

-- what adding a shown period makes of the sums
pub record Adds (old new : Sums) (shown : PeriodView) : Type 0 where
  pub claimed : new.claimed ≡ old.claimed + bit shown.claim
  pub excluded : new.excluded ≡ old.excluded + excluded shown
  pub readmitted : new.readmitted ≡ old.readmitted + readmitted shown
  pub few_excluded : new.excluded ≤ old.excluded + 8
  pub few_readmitted : new.readmitted ≤ old.readmitted + 8
  pub members : new.members ≡ members_in (state_after shown)
  pub counts : new.counts.counts ≡ counts_in (state_after shown)

pub sums_first : (sys : System) (s : Sums) → s.claimed ≡ 0 → s.excluded ≡ 0 → s.readmitted ≡ 0 → AreSums sys 0 s
sums_first sys s a b d = record {
  claimed = a ∙ sym (how_many_none (is_claimed_at sys));
  excluded = b ∙ sym (total_none (excluded_at sys));
  readmitted = d ∙ sym (total_none (readmitted_at sys));
  few_claimed = omega arith;
  few_excluded = omega arith;
  few_readmitted = omega arith;
  members = λ q e. absurd (omega arith);
  counts = λ q e. absurd (omega arith);
}

same_period : (p q : ℕ) → p + 1 ≡ suc q → p ≡ q
same_period p q e = omega arith

pub sums_more : (sys : System) (clock : Option ClockView) (p : ℕ) (old new : Sums) (shown : PeriodView) → shown ≡ without_frames (period_record sys clock p) → Adds old new shown → AreSums sys p old → AreSums sys (p + 1) new
unfolding is_claimed_at excluded_at readmitted_at state_at
sums_more sys clock p old new shown is a s =
    let here : bit shown.claim ≡ bit (is_claimed_at sys p) = ap (λ (r : PeriodView). bit r.claim) is in
    let gone : excluded shown ≡ excluded_at sys p = ap excluded is in
    let back : readmitted shown ≡ readmitted_at sys p = ap readmitted is in
    let few = bit_le shown.claim in
    let more = how_many_more (is_claimed_at sys) p in
    let more_gone = total_more (excluded_at sys) p in
    let more_back = total_more (readmitted_at sys) p in
    let a_claimed = a.claimed in let a_excluded = a.excluded in let a_readmitted = a.readmitted in
    let f_excluded = a.few_excluded in let f_readmitted = a.few_readmitted in
    let s_claimed = s.claimed in let s_excluded = s.excluded in let s_readmitted = s.readmitted in
    let g_claimed = s.few_claimed in let g_excluded = s.few_excluded in let g_readmitted = s.few_readmitted in
    record {
      claimed = omega arith;
      excluded = omega arith;
      readmitted = omega arith;
      few_claimed = omega arith;
      few_excluded = omega arith;
      few_readmitted = omega arith;
      members = λ q e. a.members ∙ ap (λ (r : PeriodView). members_in (state_after r)) is ∙ ap (λ (k : ℕ). members_in (state_at sys k)) (same_period p q e);
      counts = λ q e. a.counts ∙ ap (λ (r : PeriodView). counts_in (state_after r)) is ∙ ap (λ (k : ℕ). counts_in (state_at sys k)) (same_period p q e);
    }

-- the reference node of a period is in use
pub reference_shown : (sys : System) (clock : Option ClockView) (p : ℕ) (shown : PeriodView) → shown ≡ without_frames (period_record sys clock p) → (r : ℕ) → shown.reference ≡ Some r → r < shown.nodes
reference_shown sys clock p shown is r e =
    subst (λ (v : PeriodView). r < v.nodes) (sym is) (reference_low sys p r (sym (ap (λ (v : PeriodView). v.reference) is) ∙ e))

-- the state that is shown of the reference node is its state after the period
pub after_shown : (shown : Shown 8) (r : ℕ) (agreed : Option AgreedView) → shown.head.reference ≡ Some r → r < shown.head.nodes → agreed ≡ (outcome_at shown.made r).agreed
    → state_after (record_of shown) ≡ agreed
after_shown shown r agreed e low is =
    ap (λ (i : Option ℕ). option_and_then (λ o. o.agreed) (option_and_then (slice_get (record_of shown).records) i)) e
    ∙ ap (option_and_then (λ (o : Outcome). o.agreed)) (shown_at shown r low) ∙ sym is

-- ---- all periods

abbrev summary_with : ℕ → ScenarioView 8 → ℕ → ℕ → ℕ → List ℕ → List ℕ → StormView
summary_with seed sc claimed excluded readmitted members counts = record {
  seed = seed;
  periods = sc.periods;
  claimed = claimed;
  lines = length sc.plan.lines;
  restarts = length sc.plan.restarts;
  excluded = excluded;
  readmitted = readmitted;
  members = members;
  counts = counts;
  nodes = sc.config.nodes;
}

-- the summary, by what is summed up of each period
summary_is : (seed : ℕ) (sc : ScenarioView 8)
    → summary_with seed sc (how_many (is_claimed_at (system_of sc)) sc.periods) (total (excluded_at (system_of sc)) sc.periods) (total (readmitted_at (system_of sc)) sc.periods)
    (members_in (state_at (system_of sc) (sc.periods - 1))) (counts_in (state_at (system_of sc) (sc.periods - 1))) ≡ summary_of seed sc
unfolding is_claimed_at excluded_at readmitted_at state_at
summary_is seed sc = refl

pub summed_up : (seed : ℕ) (sc : ScenarioView 8) (p : ℕ) (s : Sums) → p ≡ sc.periods → 1 ≤ sc.periods → AreSums (system_of sc) p s
    → summary_with seed sc s.claimed s.excluded s.readmitted s.members s.counts.counts ≡ summary_of seed sc
summed_up seed sc p s e some sums =
    let sys = system_of sc in
    let last : p ≡ suc (sc.periods - 1) = omega arith in
    let claimed : s.claimed ≡ how_many (is_claimed_at sys) sc.periods = sums.claimed ∙ ap (how_many (is_claimed_at sys)) e in
    let gone : s.excluded ≡ total (excluded_at sys) sc.periods = sums.excluded ∙ ap (total (excluded_at sys)) e in
    let back : s.readmitted ≡ total (readmitted_at sys) sc.periods = sums.readmitted ∙ ap (total (readmitted_at sys)) e in
    let members = sums.members (sc.periods - 1) last in
    let counts = sums.counts (sc.periods - 1) last in
    ap (λ (n : ℕ). summary_with seed sc n s.excluded s.readmitted s.members s.counts.counts) claimed
    ∙ ap (λ (n : ℕ). summary_with seed sc (how_many (is_claimed_at sys) sc.periods) n s.readmitted s.members s.counts.counts) gone
    ∙ ap (λ (n : ℕ). summary_with seed sc (how_many (is_claimed_at sys) sc.periods) (total (excluded_at sys) sc.periods) n s.members s.counts.counts) back
    ∙ ap (λ (xs : List ℕ). summary_with seed sc (how_many (is_claimed_at sys) sc.periods) (total (excluded_at sys) sc.periods) (total (readmitted_at sys) sc.periods) xs s.counts.counts) members
    ∙ ap (λ (xs : List ℕ). summary_with seed sc (how_many (is_claimed_at sys) sc.periods) (total (excluded_at sys) sc.periods) (total (readmitted_at sys) sc.periods) (members_in (state_at sys (sc.periods - 1))) xs) counts
    ∙ summary_is seed sc

abbrev told : ℕ → ℕ → ℕ → ℕ → ℕ → Sums → StormView
told seed periods lines restarts nodes s = record {
  seed = seed;
  periods = periods;
  claimed = s.claimed;
  lines = lines;
  restarts = restarts;
  excluded = s.excluded;
  readmitted = s.readmitted;
  members = s.members;
  counts = s.counts.counts;
  nodes = nodes;
}

-- and as they are told, with the scenario's own numbers
pub all_summed : (seed : ℕ) (sc : ScenarioView 8) (periods lines restarts nodes p : ℕ) (s : Sums) → periods ≡ sc.periods → lines ≡ length sc.plan.lines → restarts ≡ length sc.plan.restarts
    → nodes ≡ sc.config.nodes → p ≡ sc.periods → 1 ≤ sc.periods → AreSums (system_of sc) p s → told seed periods lines restarts nodes s ≡ summary_of seed sc
all_summed seed sc periods lines restarts nodes p s a b d e all some sums =
    ap (λ (n : ℕ). told seed n lines restarts nodes s) a
    ∙ ap (λ (n : ℕ). told seed sc.periods n restarts nodes s) b
    ∙ ap (λ (n : ℕ). told seed sc.periods (length sc.plan.lines) n nodes s) d
    ∙ ap (λ (n : ℕ). told seed sc.periods (length sc.plan.lines) (length sc.plan.restarts) n s) e
    ∙ summed_up seed sc p s all some sums
