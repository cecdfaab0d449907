-- What the parts of a scenario say to types with places for further nodes, and that the same rule refuses them.
use Rattle.std.proofs.Common.{ℕ, ◌≡◌, ◌≤◌, ◌+◌, ◌-◌, ◌^◌, min, Bool, true, false, not, ◌&&◌, ◌==◌, List, [], ◌∷◌, ◌++◌, map, length, replicate, get_or, Option, None, Some, refl, sym, ap, subst, ◌∙◌, arith, eqb-true, nat_lt}
use Rattle.std.proofs.Math.Path.{fun_ext}
use Rattle.std.specs.Prelude.{if◌then◌else◌, ℤ, pos, negsuc}
use Rattle.std.specs.List.{list_all}
use Rattle.std.specs.Option.{option_map, option_or}
use Rattle.std.proofs.lemmas.Bool.{and_parts}
use Rattle.std.proofs.lemmas.List.{append_assoc, length-map, replicate-append-replicate}
use Rattle.node_grid.specs.Capacity.{IsCapacity}
use Rattle.node_grid.specs.Version.{most_nodes}
use Rattle.node_grid.specs.TruthFacts.{second_none, first_none}
use Rattle.mme_vote.specs.declared.channel.Channel.{Channel}
use Rattle.mme_vote.specs.declared.channel.Channel.TheVariants.{State}
use Rattle.clock_skew.specs.Clock.{ClockView}
use Rattle.fault_classes.specs.Plan.{Plan}
use Rattle.agreed_state.specs.declared.config.Config.{Config}
use Rattle.agreed_state.specs.declared.config.Inputs.{Inputs}
use Rattle.protocol.specs.Run.{System, run, classes}
use Rattle.protocol.specs.Accepted.{IsAccepted}
use Rattle.protocol.specs.Clocks.{AreClocks}
use Rattle.scenario.specs.Parts.{ChannelParts, TaskParts, ClockParts, ScenarioParts}
use Rattle.scenario.specs.Parts.ChannelParts.{state, sensor, copy}
use Rattle.scenario.specs.Numbers.{is_between, is_below, natural, is_rising, are_all_below}
use Rattle.scenario.specs.Given.{padded, task_of, channel_of, rows_of, config_of, plan_in, time_of, times_of, clock_given, scenario_of}
use Rattle.scenario.specs.Scenario.{reading_given, inputs_of, system_of, IsScenario}
use Rattle.scenario.specs.Rules.{unless, at_place, first_bad, version_of, is_of_version, has_nodes, has_rounds, is_policy, is_channel, fits_channel, closes, is_task, fits_task, sizes_refusal, lengths_refusal, numbers_refusal, channels_refusal, tasks_refusal, cycles_refusal, plan_refusal, are_rows, are_up_to, is_drift, is_clock, clock_refused, clock_refusal, early_refusal, refusal}
use Rattle.two_capacities.specs.Wider.{wide_channel, wide_config, system_over, longer, wide_clock}
use Rattle.two_capacities.proofs.Lists.{get_padded, get_mapped, tab_padded}
use Rattle.two_capacities.proofs.Accepted.{accepted_wide, clocks_wide}
use Rattle.scenario.specs.Facts.{good_first, no_place, unless_holds}

-- ---- rules that don't refuse

module _ (c : ℕ) (p : ScenarioParts) (h : refusal c p ≡ None) where
  early : early_refusal c p ≡ None
  early = first_none (early_refusal c p) (option_or (cycles_refusal p) (option_or (plan_refusal p) (clock_refusal p))) h

  lists : option_or (channels_refusal p) (tasks_refusal p) ≡ None
  lists = second_none (numbers_refusal c p) (option_or (channels_refusal p) (tasks_refusal p)) early

  sizes : sizes_refusal c p ≡ None
  sizes = first_none (sizes_refusal c p) (option_or (lengths_refusal p) (unless (is_policy (version_of p) p.policy) 5 0)) (first_none (numbers_refusal c p) (option_or (channels_refusal p) (tasks_refusal p)) early)

  pub nodes_fit : has_nodes c p ≡ true
  nodes_fit =
      let version = unless (is_between (pos 1) (pos 2) p.version) 2 1 in
      let nodes = unless (has_nodes c p) 2 0 in
      let rounds = unless (has_rounds p) 3 0 in
      unless_holds (has_nodes c p) 2 0 (first_none nodes rounds (second_none version (option_or nodes rounds) (second_none (unless (is_of_version p) 1 0) (option_or version (option_or nodes rounds)) sizes)))

  pub channels_fit : first_bad (fits_channel (natural p.nodes) (length p.tasks)) 0 p.channels ≡ None
  channels_fit =
      let ranges = at_place 6 (first_bad (fits_channel (natural p.nodes) (length p.tasks)) 0 p.channels) in
      no_place 6 _ (first_none ranges (at_place 7 (first_bad (closes (natural p.nodes) p.tasks) 0 p.channels)) (first_none (channels_refusal p) (tasks_refusal p) lists))

  pub tasks_fit : first_bad (fits_task (natural p.nodes) (length p.tasks)) 0 p.tasks ≡ None
  tasks_fit = no_place 8 _ (second_none (channels_refusal p) (tasks_refusal p) lists)

  pub clock_fits : clock_refusal p ≡ None
  clock_fits = second_none (plan_refusal p) (clock_refusal p) (second_none (cycles_refusal p) (option_or (plan_refusal p) (clock_refusal p)) (second_none (early_refusal c p) (option_or (cycles_refusal p) (option_or (plan_refusal p) (clock_refusal p))) h))

-- ---- how many nodes there are

few_within : (c most : ℕ) (z : ℤ) → is_between (pos 3) (pos (min c most)) z ≡ true → natural z ≤ c
few_within c most (pos n) h = least (min c most) n c (and_parts (not (nat_lt n 3)) (not (nat_lt (min c most) n)) h).1 (omega arith) where
  least : (a n c : ℕ) → not (nat_lt a n) ≡ true → a ≤ c → n ≤ c
  least a n c h l = grind arith
few_within c most (negsuc n) h = cc

pub few_nodes : (c : ℕ) (p : ScenarioParts) → has_nodes c p ≡ true → natural p.nodes ≤ c
few_nodes c p h = few_within c (most_nodes (version_of p)) p.nodes h

within_same : (c k most : ℕ) (z : ℤ) → natural z ≤ c → is_between (pos 3) (pos (min (c + k) most)) z ≡ is_between (pos 3) (pos (min c most)) z
within_same c k most (pos n) h = ap (λ b. not (nat_lt n 3) && not b) (same c k most n h) where
  same : (c k most n : ℕ) → n ≤ c → nat_lt (min (c + k) most) n ≡ nat_lt (min c most) n
  same c k most n h = grind arith
within_same c k most (negsuc n) h = refl

-- the same rule refuses, at the same place, where there is room for all nodes
pub refusal_same : (c k : ℕ) (p : ScenarioParts) → natural p.nodes ≤ c → refusal (c + k) p ≡ refusal c p
refusal_same c k p h =
    ap (λ b. option_or (option_or (option_or (option_or (unless (is_of_version p) 1 0) (option_or (unless (is_between (pos 1) (pos 2) p.version) 2 1) (option_or (unless b 2 0) (unless (has_rounds p) 3 0))))
    (option_or (lengths_refusal p) (unless (is_policy (version_of p) p.policy) 5 0))) (option_or (channels_refusal p) (tasks_refusal p))) (option_or (cycles_refusal p) (option_or (plan_refusal p) (clock_refusal p))))
    (within_same c k (most_nodes (version_of p)) p.nodes h)

-- ---- channels

padded_longer : (c k : ℕ) (xs : List ℤ) → length xs ≤ c → padded (c + k) xs ≡ padded c xs ++ replicate k (pos 0)
padded_longer c k xs h =
    let zeros : replicate (c + k - length xs) (pos 0) ≡ replicate (c - length xs) (pos 0) ++ replicate k (pos 0) =
    ap (λ n. let r : List ℤ = replicate n (pos 0) in r) (let e : c + k - length xs ≡ c - length xs + k = omega arith in e) ∙ sym (replicate-append-replicate (c - length xs) k (pos 0)) in
    ap (λ ys. xs ++ ys) zeros ∙ sym (append_assoc xs (replicate (c - length xs) (pos 0)) (replicate k (pos 0)))

channel_longer : (c k nodes tasks : ℕ) (ch : ChannelParts) → nodes ≤ c → is_channel nodes tasks ch ≡ true → channel_of (c + k) ch ≡ wide_channel k (channel_of c ch)
channel_longer c k nodes tasks (state delta start step) few h =
    let front = (and_parts _ _ h).0 in
    let values = (and_parts _ _ front).1 in
    let long : length start ≡ nodes = eqb-true (length start) nodes (and_parts _ _ values).0 in
    ap (λ xs. State delta xs step) (padded_longer c k start (within (length start) long))
  where
    within : (n : ℕ) → n ≡ nodes → n ≤ c
    within n e = omega arith
channel_longer c k nodes tasks (sensor delta task rows) few h = refl
channel_longer c k nodes tasks (copy delta task lies rows) few h = refl

channels_longer : (c k nodes tasks i : ℕ) (cs : List ChannelParts) → nodes ≤ c → first_bad (fits_channel nodes tasks) i cs ≡ None → map (channel_of (c + k)) cs ≡ map (wide_channel k) (map (channel_of c) cs)
channels_longer c k nodes tasks i [] few h = refl
channels_longer c k nodes tasks i (ch ∷ cs) few h =
    let g = good_first (fits_channel nodes tasks) i ch cs (fits_channel nodes tasks i ch) refl h in
    ap (λ x. x ∷ map (channel_of (c + k)) cs) (channel_longer c k nodes tasks ch few (and_parts (nat_lt i 8) (is_channel nodes tasks ch) g.0).1)
    ∙ ap (λ xs. wide_channel k (channel_of c ch) ∷ xs) (channels_longer c k nodes tasks (i + 1) cs few g.1)

-- ---- run times

no_time : (c nodes : ℕ) (ns ts : List ℤ) (i : ℕ) → nodes ≤ c → c ≤ i → list_all (is_below nodes) ns ≡ true → time_of ns ts i ≡ 0
no_time c nodes [] ts i few past h = refl
no_time c nodes (n ∷ ns) [] i few past h = refl
no_time c nodes (n ∷ ns) (t ∷ ts) i few past h =
    let parts = and_parts (is_below nodes n) (list_all (is_below nodes) ns) h in
    ap (λ b. if b then natural t else time_of ns ts i) (other n parts.0) ∙ no_time c nodes ns ts i few past parts.1
  where
    differs : (a i : ℕ) → nat_lt a nodes ≡ true → nodes ≤ i → (a == i) ≡ false
    differs a i h l = grind arith

    other : (z : ℤ) → is_below nodes z ≡ true → (natural z == i) ≡ false
    other (pos a) h = differs a i h (omega arith)
    other (negsuc a) h = cc

time_same : (c k nodes tasks : ℕ) (t : TaskParts) (i : ℕ) → nodes ≤ c → is_task nodes tasks t ≡ true → get_or (times_of (c + k) t) i 0 ≡ get_or (times_of c t) i 0
time_same c k nodes tasks t i few h =
    let a = (and_parts _ _ h).0 in
    let b = (and_parts _ _ a).0 in
    let d : are_all_below nodes t.nodes ≡ true = (and_parts _ _ b).1 in
    let all : list_all (is_below nodes) t.nodes ≡ true = (and_parts (is_rising t.nodes) (list_all (is_below nodes) t.nodes) d).1 in
    ap (λ xs. get_or xs i 0) (tab_padded (time_of t.nodes t.run) (time_of t.nodes t.run) 0 c k (λ j l. refl) (λ j l. no_time c nodes t.nodes t.run j few l all))
    ∙ get_padded (times_of c t) k 0 i

times_same : (c k nodes tasks n : ℕ) (ts : List TaskParts) (i : ℕ) → nodes ≤ c → first_bad (fits_task nodes tasks) n ts ≡ None
    → map (λ row. get_or row i 0) (map (times_of (c + k)) ts) ≡ map (λ row. get_or row i 0) (map (times_of c) ts)
times_same c k nodes tasks n [] i few h = refl
times_same c k nodes tasks n (t ∷ ts) i few h =
    let g = good_first (fits_task nodes tasks) n t ts (fits_task nodes tasks n t) refl h in
    ap (λ x. x ∷ map (λ row. get_or row i 0) (map (times_of (c + k)) ts)) (time_same c k nodes tasks t i few (and_parts (nat_lt n 32) (is_task nodes tasks t) g.0).1)
    ∙ ap (λ xs. get_or (times_of c t) i 0 ∷ xs) (times_same c k nodes tasks (n + 1) ts i few g.1)

-- ---- clocks

module _ (c k nodes : ℕ) (few : nodes ≤ c) where
  row_longer : (most : ℤ) (row : List ℤ) → are_up_to nodes most row ≡ true → padded (c + k) row ≡ longer k (padded c row)
  row_longer most row h =
      let long : length row ≡ nodes = eqb-true (length row) nodes (and_parts (length row == nodes) _ h).0 in
      padded_longer c k row (omega arith)

  rows_longer : (test : List ℤ → Bool) → ((row : List ℤ) → test row ≡ true → padded (c + k) row ≡ longer k (padded c row))
      → (rows : List (List ℤ)) → list_all test rows ≡ true → map (padded (c + k)) rows ≡ map (longer k) (map (padded c) rows)
  rows_longer test is [] h = refl
  rows_longer test is (row ∷ rows) h =
      let parts = and_parts (test row) (list_all test rows) h in
      ap (λ x. x ∷ map (padded (c + k)) rows) (is row parts.0)
      ∙ ap (λ xs. longer k (padded c row) ∷ xs) (rows_longer test is rows parts.1)

  clock_longer : (o : Option ClockParts) (plan : Plan) → clock_refused nodes plan o ≡ None → option_map (clock_given (c + k) nodes) o ≡ option_map (wide_clock k) (option_map (clock_given c nodes) o)
  clock_longer None plan h = refl
  clock_longer (Some o) plan h =
      let a : is_clock nodes o ≡ true = unless_holds (is_clock nodes o) 18 0 (first_none (unless (is_clock nodes o) 18 0) _ h) in
      let errors = and_parts _ (are_rows (are_up_to nodes o.epsilon) o.errors) a in
      let drifts = and_parts _ (are_rows (is_drift nodes o.drift) o.drifts) errors.0 in
      let start = and_parts _ (are_up_to nodes (pos (2 ^ 40)) o.start) drifts.0 in
      let told = λ (s : List ℤ) (d e : List (List ℤ)). let v : ClockView = record (clock_given c nodes o) { start = s; drifts = d; errors = e } in Some v in
      ap (λ s. told s (map (padded (c + k)) o.drifts) (map (padded (c + k)) o.errors)) (row_longer (pos (2 ^ 40)) o.start start.1)
      ∙ ap (λ d. told (longer k (padded c o.start)) d (map (padded (c + k)) o.errors))
      (rows_longer (is_drift nodes o.drift) (λ row is. row_longer (pos (2 ^ 20)) row (and_parts (are_up_to nodes (pos (2 ^ 20)) row) _ is).0) o.drifts (and_parts _ (list_all (is_drift nodes o.drift) o.drifts) drifts.1).1)
      ∙ ap (λ e. told (longer k (padded c o.start)) (map (longer k) (map (padded c) o.drifts)) e)
      (rows_longer (are_up_to nodes o.epsilon) (row_longer o.epsilon) o.errors (and_parts _ (list_all (are_up_to nodes o.epsilon) o.errors) errors.1).1)

-- ---- what the parts say

module _ (c k : ℕ) (p : ScenarioParts) (h : refusal c p ≡ None) where
  few : natural p.nodes ≤ c
  few = few_nodes c p (nodes_fit c p h)

  config_longer : config_of (c + k) p ≡ wide_config k (config_of c p)
  config_longer =
      ap (λ (xs : List (Channel (c + k))). let g : Config (c + k) = record (config_of (c + k) p) { channels = record { items = xs } } in g)
      (channels_longer c k (natural p.nodes) (length p.tasks) 0 p.channels few (channels_fit c p h))

  inputs_same : inputs_of (scenario_of (c + k) p) ≡ inputs_of (scenario_of c p)
  inputs_same = fun_ext (λ i. fun_ext (λ q.
      let readings : List ℤ = map (reading_given i q) (scenario_of c p).readings ++ replicate (8 - length (scenario_of c p).readings) (pos 0) in
      ap (λ xs. let x : Inputs = record { run = xs ++ replicate (32 - length (map (times_of (c + k)) p.tasks)) 0; reading = readings } in x)
      (times_same c k (natural p.nodes) (length p.tasks) 0 p.tasks i few (tasks_fit c p h))
      ∙ ap (λ n. let x : Inputs = record { run = map (λ row. get_or row i 0) (map (times_of c) p.tasks) ++ replicate (32 - n) 0; reading = readings } in x)
      (length-map p.tasks (times_of (c + k)) ∙ sym (length-map p.tasks (times_of c)))))

  pub system_longer : system_of (scenario_of (c + k) p) ≡ system_over (wide_config k (config_of c p)) (plan_in p) (inputs_of (scenario_of c p))
  system_longer =
      ap (λ (g : Config (c + k)). system_over g (plan_in p) (inputs_of (scenario_of (c + k) p))) config_longer
      ∙ ap (system_over (wide_config k (config_of c p)) (plan_in p)) inputs_same

  pub clock_wide : (scenario_of (c + k) p).clock ≡ option_map (wide_clock k) (scenario_of c p).clock
  unfolding clock_refusal
  clock_wide = clock_longer c k (natural p.nodes) few p.clock (plan_in p) (clock_fits c p h)

  -- ---- an accepted scenario

  abbrev small : System
  small = system_over (config_of c p) (plan_in p) (inputs_of (scenario_of c p))

  abbrev large : System
  large = system_over (wide_config k (config_of c p)) (plan_in p) (inputs_of (scenario_of c p))

  run_time_same : (t i : ℕ) → get_or (get_or (map (times_of (c + k)) p.tasks) t []) i 0 ≡ get_or (get_or (map (times_of c) p.tasks) t []) i 0
  run_time_same t i =
      let f : List ℕ → ℕ = λ row. get_or row i 0 in
      sym (get_mapped f (map (times_of (c + k)) p.tasks) t [])
      ∙ ap (λ xs. get_or xs t 0) (times_same c k (natural p.nodes) (length p.tasks) 0 p.tasks i few (tasks_fit c p h))
      ∙ get_mapped f (map (times_of c) p.tasks) t []

  clocks_fit : (o : Option ClockView) → ((y : ClockView) → o ≡ Some y → AreClocks (run small) (classes small) y) → (x : ClockView) → option_map (wide_clock k) o ≡ Some x
      → AreClocks (run large) (classes large) x
  clocks_fit None each x e = cc
  clocks_fit (Some y) each x e =
      let same : wide_clock k y ≡ x = cc in
      subst (λ (z : ClockView). AreClocks (run large) (classes large) z) same (clocks_wide c k (config_of c p) (plan_in p) (inputs_of (scenario_of c p)) y (each y refl))

  pub scenario_longer : IsCapacity (c + k) → IsScenario (scenario_of c p) → IsScenario (scenario_of (c + k) p)
  scenario_longer room is = record {
    system = subst (λ (s : System). IsAccepted s) (sym system_longer) (accepted_wide c k (config_of c p) (plan_in p) (inputs_of (scenario_of c p)) room is.system);
    some_periods = is.some_periods;
    few_periods = is.few_periods;
    plan_periods = is.plan_periods;
    order = is.order;
    task_count = length-map p.tasks (times_of (c + k)) ∙ sym (length-map p.tasks (task_of (natural p.nodes)));
    channel_count = length-map p.channels rows_of ∙ sym (length-map p.channels (channel_of (c + k)));
    times = λ t i. omega (arith, run_time_same t i, is.times t i);
    clock = λ x e.
        subst (λ (s : System). AreClocks (run s) (classes s) x) (sym system_longer) (clocks_fit (scenario_of c p).clock is.clock x (sym clock_wide ∙ e));
  }
