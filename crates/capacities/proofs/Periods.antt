-- The record of a period, where types have places for further nodes.
use Rattle.std.proofs.Common.{ℕ, zero, suc, ◌≡◌, ◌≤◌, ◌+◌, ◌*◌, Bool, ◌&&◌, List, ◌++◌, map, length, replicate, Option, None, Some, refl, sym, ap, ◌∙◌, arith, le-ltb}
use Rattle.std.proofs.Math.Path.{fun_ext}
use Rattle.std.specs.Prelude.{if◌then◌else◌, nat_lt, ℤ, pos}
use Rattle.std.specs.Option.{option_map}
use Rattle.std.proofs.lemmas.List.FromFn.{length-map-range_with_len}
use Rattle.node_grid.specs.NodeSet.{ids_below}
use Rattle.node_grid.specs.Count.{count}
use Rattle.node_grid.specs.declared.class.Class.{Class}
use Rattle.node_grid.specs.declared.class.Class.TheVariants.{N}
use Rattle.node_grid.specs.Class.{is_asymmetric, is_symmetric, is_silent}
use Rattle.clock_skew.specs.Clock.{ClockView}
use Rattle.fault_classes.specs.declared.budget.Budget.{Budget}
use Rattle.fault_classes.specs.Plan.{Plan}
use Rattle.agreed_state.specs.declared.config.Config.{Config}
use Rattle.agreed_state.specs.declared.config.Inputs.{Inputs}
use Rattle.protocol.specs.View.{Kept, View}
use Rattle.protocol.specs.Cluster.{begins, view}
use Rattle.protocol.specs.Run.{System, members_in, run, sent, classes}
use Rattle.protocol.specs.Clocks.{correction_at, offsets}
use Rattle.protocol.specs.Safe.{reference, members_from, members_at}
use Rattle.node_steps.specs.Outcome.{Outcome}
use Rattle.node_steps.specs.Stages.{outcome_of}
use Rattle.cluster_periods.specs.Record.{ClockShown, PeriodView, holds, budget_in, within_in, claimed_before, class_shown, clock_in, period_record}
use Rattle.two_capacities.specs.Wider.{wide, wide_rows, wide_config, wide_agreed, wide_claims, wide_view, system_over, longer, wide_clock}
use Rattle.two_capacities.proofs.Lists.{map_twice, tab_padded}
use Rattle.two_capacities.proofs.Runs.{members_wide, believed_wide, begun_wide, sent_wide}
use Rattle.two_capacities.proofs.Clocks.{correction_wide, offsets_wide}

abbrev pub wide_outcome : ℕ → ℕ → Outcome → Outcome
wide_outcome n k r = record {
  mode = r.mode;
  agreed = option_map (wide_agreed n k) r.agreed;
  members = r.members;
  done = wide_claims k r.done;
  rows = wide_rows n k r.rows;
  due = r.due;
  votes = r.votes;
  found = wide n k r.found;
  sync = r.sync;
}

abbrev pub wide_shown : ℕ → ClockShown → ClockShown
wide_shown k s = record { correction = longer k s.correction; offset = longer k s.offset }

abbrev pub wide_record : ℕ → PeriodView → PeriodView
wide_record k t = record t { classes = t.classes ++ replicate k N; records = map (wide_outcome t.nodes k) t.records; clock = option_map (wide_shown k) t.clock }

-- there is a class, and where there are clocks an offset, of each node in use
abbrev pub HasClockRoom : ℕ → Option ClockShown → Type 0
HasClockRoom n None = Unit {0}
HasClockRoom n (Some s) = n ≤ length s.offset

pub record HasRoom (t : PeriodView) : Type 0 where
  pub classes : t.nodes ≤ length t.classes
  pub clock : HasClockRoom t.nodes t.clock

outcome_wide : (n k : ℕ) (v : View) → outcome_of (wide_view n k v) ≡ wide_outcome n k (outcome_of v)
outcome_wide n k v = ap (λ (ms : List ℕ). let r : Outcome = record (wide_outcome n k (outcome_of v)) { members = ms } in r) (members_wide n k v.before)

module _ {c : ℕ} (k : ℕ) (g : Config c) (few : g.nodes ≤ c) (few_graph : g.graph.nodes ≤ c) (plan : Plan) (inputs : ℕ → ℕ → Inputs) where
  abbrev small : System
  small = system_over g plan inputs

  abbrev large : System
  large = system_over (wide_config k g) plan inputs

  from_wide : (p : ℕ) (o : Option ℕ) → members_from (run large) p o ≡ members_from (run small) p o
  from_wide p None = refl
  from_wide p (Some r) = ap (λ (x : Kept). members_in x.state) (begun_wide k g few few_graph plan inputs r p) ∙ members_wide g.nodes k (begins (run small) r p).state

  members_same : (p : ℕ) → members_at (run large) (classes large) p ≡ members_at (run small) (classes small) p
  members_same p = from_wide p (reference (run small) (classes small) p)

  abbrev budget_of : ℕ → List ℕ → Budget
  budget_of p ms = record {
    n = length ms;
    a = count (λ q. is_asymmetric (classes small p q)) ms;
    s = count (λ q. is_symmetric (classes small p q)) ms;
    b = count (λ q. is_silent (classes small p q)) ms;
  }

  budget_same : (p : ℕ) → budget_in large p ≡ budget_in small p
  budget_same p = ap (budget_of p) (members_same p)

  within_same : (p : ℕ) → within_in large p ≡ within_in small p
  within_same p = ap (λ b. holds b g.m) (budget_same p)

  claimed_same : (p : ℕ) → claimed_before large p ≡ claimed_before small p
  unfolding claimed_before
  claimed_same zero = refl
  claimed_same (suc p) = ap (λ b. b && within_in large p) (claimed_same p) ∙ ap (λ b. claimed_before small p && b) (within_same p)

  classes_wide : (p : ℕ) → map (class_shown large p) (ids_below (c + k)) ≡ map (class_shown small p) (ids_below c) ++ replicate k N
  classes_wide p = tab_padded (class_shown small p) (class_shown large p) N c k (λ j l. refl) (λ j l. ap (λ b. if b then classes small p j else N) (le-ltb j g.nodes (omega arith)))

  records_wide : (p : ℕ) → map (λ i. outcome_of (view (run large) i p)) (ids_below g.nodes) ≡ map (wide_outcome g.nodes k) (map (λ i. outcome_of (view (run small) i p)) (ids_below g.nodes))
  records_wide p =
      ap (λ (f : ℕ → Outcome). map f (ids_below g.nodes)) (fun_ext (λ i. ap outcome_of (believed_wide k g few few_graph plan inputs i p) ∙ outcome_wide g.nodes k (view (run small) i p)))
      ∙ sym (map_twice (wide_outcome g.nodes k) (λ i. outcome_of (view (run small) i p)) (ids_below g.nodes))

  frames_same : (p : ℕ) → map (λ t. map (sent large p t) (ids_below g.nodes)) (ids_below (2 * g.m + 4)) ≡ map (λ t. map (sent small p t) (ids_below g.nodes)) (ids_below (2 * g.m + 4))
  frames_same p =
      ap (λ (f : ℕ → ℕ → List ℕ). map (λ t. map (f t) (ids_below g.nodes)) (ids_below (2 * g.m + 4))) (fun_ext (λ t. fun_ext (sent_wide k g few few_graph plan inputs p t)))

  abbrev shown_by : ℕ → List ℕ → Budget → Bool → Bool → List Class → List Outcome → List (List (List ℕ)) → Option ClockShown → PeriodView
  shown_by p ms b w cl cs rs fs clock = record {
    period = p;
    nodes = g.nodes;
    m = g.m;
    retire = g.policy.retire;
    reference = reference (run small) (classes small) p;
    members = ms;
    budget = b;
    within = w;
    claim = cl;
    classes = cs;
    records = rs;
    sent = fs;
    clock = clock;
  }

  same_shown : (p : ℕ) {a a' : List ℕ} {b b' : Budget} {w w' cl cl' : Bool} {cs cs' : List Class} {rs rs' : List Outcome} {fs fs' : List (List (List ℕ))} {o o' : Option ClockShown} → a ≡ a' → b ≡ b' → w ≡ w' → cl ≡ cl' → cs ≡ cs' → rs ≡ rs' → fs ≡ fs' → o ≡ o'
      → shown_by p a b w cl cs rs fs o ≡ shown_by p a' b' w' cl' cs' rs' fs' o'
  same_shown p {a} {a'} {b} {b'} {w} {w'} {cl} {cl'} {cs} {cs'} {rs} {rs'} {fs} {fs'} {o} {o'} ea eb ew el ec er ef eo =
      ap (λ x. shown_by p x b w cl cs rs fs o) ea
      ∙ ap (λ x. shown_by p a' x w cl cs rs fs o) eb
      ∙ ap (λ x. shown_by p a' b' x cl cs rs fs o) ew
      ∙ ap (λ x. shown_by p a' b' w' x cs rs fs o) el
      ∙ ap (λ x. shown_by p a' b' w' cl' x rs fs o) ec
      ∙ ap (λ x. shown_by p a' b' w' cl' cs' x fs o) er
      ∙ ap (λ x. shown_by p a' b' w' cl' cs' rs' x o) ef
      ∙ ap (λ x. shown_by p a' b' w' cl' cs' rs' fs' x) eo

  -- the clocks

  numbers_wide : (f f' : ℕ → ℤ) → f' ≡ f → map (λ i. if nat_lt i g.nodes then f' i else pos 0) (ids_below (c + k)) ≡ longer k (map (λ i. if nat_lt i g.nodes then f i else pos 0) (ids_below c))
  numbers_wide f f' e =
      ap (λ (h : ℕ → ℤ). map (λ i. if nat_lt i g.nodes then h i else pos 0) (ids_below (c + k))) e
      ∙ tab_padded (λ i. if nat_lt i g.nodes then f i else pos 0) (λ i. if nat_lt i g.nodes then f i else pos 0) (pos 0) c k (λ i l. refl) (λ i l. ap (λ b. if b then f i else pos 0) (le-ltb i g.nodes (omega arith)))

  same_clock : {a a' b b' : List ℤ} → a ≡ a' → b ≡ b' → (let s : ClockShown = record { correction = a; offset = b } in s) ≡ record { correction = a'; offset = b' }
  same_clock {a} {a'} {b} {b'} ea eb = ap (λ x. let s : ClockShown = record { correction = x; offset = b } in s) ea ∙ ap (λ x. let s : ClockShown = record { correction = a'; offset = x } in s) eb

  clock_wide : (clock : Option ClockView) (p : ℕ) → option_map (λ x. clock_in large x p) (option_map (wide_clock k) clock) ≡ option_map (wide_shown k) (option_map (λ x. clock_in small x p) clock)
  clock_wide None p = refl
  clock_wide (Some clock) p =
      ap Some (same_clock
      (numbers_wide (correction_at (run small) clock (offsets (run small) clock p) p) (correction_at (run large) (wide_clock k clock) (offsets (run large) (wide_clock k clock) p) p)
      (ap (λ (o : ℕ → ℤ). correction_at (run large) (wide_clock k clock) o p) (offsets_wide k g few few_graph plan inputs clock p)
      ∙ fun_ext (correction_wide k g few few_graph plan inputs clock (offsets (run small) clock p) p)))
      (numbers_wide (offsets (run small) clock (suc p)) (offsets (run large) (wide_clock k clock) (suc p)) (offsets_wide k g few few_graph plan inputs clock (suc p))))

  pub period_wide : (clock : Option ClockView) (p : ℕ) → period_record large (option_map (wide_clock k) clock) p ≡ wide_record k (period_record small clock p)
  period_wide clock p = same_shown p (members_same p) (budget_same p) (within_same p) (claimed_same (suc p)) (classes_wide p) (records_wide p) (frames_same p) (clock_wide clock p)

  pub has_room : (clock : Option ClockView) (p : ℕ) → HasRoom (period_record small clock p)
  has_room clock p = record {
    classes = omega (arith, length-map-range_with_len (class_shown small p) 0 c);
    clock = of_clock clock;
  }
    where
      of_clock : (o : Option ClockView) → HasClockRoom g.nodes (option_map (λ x. clock_in small x p) o)
      of_clock None = tt
      of_clock (Some x) = omega (arith, length-map-range_with_len (λ i. if nat_lt i g.nodes then offsets (run small) x (suc p) i else pos 0) 0 c)
