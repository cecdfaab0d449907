-- The rounds of one kind of item, and what the run makes of them.
use Rattle.std.proofs.Common.{ℕ, ◌≡◌, ◌≢◌, ◌<◌, ◌≤◌, ◌+◌, ◌==◌, ◌&&◌, Bool, true, if◌then◌else◌, List, [], ◌∷◌, get_or, Option, None, Some, refl, sym, ap, ap₂, subst, ◌∙◌, inl, inr, arith, ltb-true, lt-ltb, nat_lt}
use Rattle.std.specs.Prelude.{is_some}
use Rattle.std.proofs.lemmas.Bool.{cases_lt, and_parts}
use Rattle.std.proofs.lemmas.List.{get_or_past}
use Rattle.std.proofs.lemmas.List.FromFn.{length-map-range_with_len}
use Rattle.node_grid.specs.NodeSet.{has_id, IsIdSet}
use Rattle.node_grid.specs.NodeSetLaws.{passes_where}
use Rattle.slot_plan.specs.Slots.{slot_count}
use Rattle.node_grid.specs.SetFacts.{empty_set}
use Rattle.node_grid.specs.TruthFacts.{if_full}
use Rattle.omh_paths.specs.declared.wrapped.Wrapped.{Wrapped}
use Rattle.omh_paths.specs.declared.wrapped.Wrapped.TheVariants.{Plain, Fault}
use Rattle.omh.specs.Omh.{Ear, settled_at, settled_from}
use Rattle.agreed_state.specs.declared.config.Config.{Config}
use Rattle.agreed_state.specs.Config.{IsConfig}
use Rattle.agreed_state.specs.Agreed.{AgreedView, IsAgreed}
use Rattle.protocol.specs.Arrival.{ItemForm}
use Rattle.protocol.specs.Configured.{setting_of}
use Rattle.protocol.specs.FurtherKinds.{convicts_member}
use Rattle.protocol.specs.Heard.{rounds_bad}
use Rattle.protocol.specs.Settled.{ear_of, plain}
use Rattle.protocol.specs.Talk.{rounds_upto}
use Rattle.protocol.specs.View.{Setting, Received, goes_with}
use Rattle.protocol.specs.Run.{System, members_in, members_of, goes_in, full_at}
use Rattle.scenario.specs.Scenario.{ScenarioView, IsScenario, system_of}
use Rattle.safety.proofs.Lists.{tabulated, in_where}
use Rattle.touched_items.specs.Items.{talk_of}
use Rattle.heard_links.specs.declared.phase.Phase.{Phase}
use Rattle.heard_links.specs.Talks.{members_at, IsSet, IsPhaseOf}
use Rattle.heard_links.specs.Hearing.{item_of}
use Rattle.item_phase.specs.declared.item_phase.ItemPhase.{ItemPhase}
use Rattle.item_phase.specs.Settled.{IsSettled, listener}
use Rattle.item_phase.specs.Noted.{rounds_of}
use Rattle.item_phase.specs.Laws.{heard_in, OfRunLaw}
use Rattle.shared_states.specs.Sharing.{state_at}
use Rattle.shown_period.specs.declared.made.Made.{Made}
use Rattle.shown_period.specs.Outcomes.{members_through}
use Rattle.at_once.specs.Parts.{setting, goes, has, is_full, through}
use Rattle.at_once.specs.Course.{awake_in, IsGoing}
use Rattle.at_once.specs.Phases.{IsPhaseAt, AreTold, IsDone, node_settles, node_item, SettleAlike}
use Rattle.at_once.proofs.Talks.{members_are}

-- a node that has a state goes through the period with one
goes_some : (s : Setting) (i : ℕ) (x : Received) (o : Option AgreedView) → is_some o ≡ true → is_some (goes_with s i x o) ≡ true
goes_some s i x (Some a) is = refl
goes_some s i x None is = cc

pub set_in : {N : ℕ} (config : Config N) (o : Option AgreedView) → ((a : AgreedView) → o ≡ Some a → IsAgreed N config a) → IsIdSet config.nodes (members_in o)
set_in config None h = empty_set config.nodes
set_in config (Some a) h = (h a refl).standing.set

module _ {N : ℕ} (sc : ScenarioView N) (p : ℕ) (full : List ℕ) (made : Made N) (going : IsGoing sc p full made) where
  pub awake_low : (i : ℕ) → has_id (awake_in N made.states) i ≡ true → i < sc.config.nodes
  awake_low i on = going.used.used i (passes_where (λ k. is_some (state_at made.states k)) N i on)

  pub full_awake : sc.config.nodes ≤ N → (i : ℕ) → has_id full i ≡ true → has_id (awake_in N made.states) i ≡ true
  full_awake few i on =
      let t = and_parts (nat_lt i sc.config.nodes) (is_full sc p i) (sym (going.full_are i) ∙ on) in
      let low : i < sc.config.nodes = ltb-true i sc.config.nodes t.0 in
      in_where (λ k. is_some (state_at made.states k)) N i (omega arith)
      (ap is_some (going.states i low) ∙ goes_some (setting sc p i) i (has sc p i) (goes sc p i).state t.1)

  pub through_awake : sc.config.nodes ≤ N → (i : ℕ) (a : AgreedView) → i < sc.config.nodes → through sc p i ≡ Some a → has_id (awake_in N made.states) i ≡ true
  through_awake few i a low is = in_where (λ k. is_some (state_at made.states k)) N i (omega arith) (ap is_some (going.states i low ∙ is))

  pub members_state : (i : ℕ) → i < N → get_or made.members i [] ≡ members_in (state_at made.states i)
  members_state i low = ap (λ (xs : List (List ℕ)). get_or xs i []) going.members ∙ tabulated N (λ k. members_in (state_at made.states k)) i [] low

  pub members_set : (i : ℕ) → IsIdSet sc.config.nodes (get_or made.members i [])
  members_set i = elim (cases_lt i N) [
    | inl low ↦ subst (IsIdSet sc.config.nodes) (sym (members_state i low)) (set_in sc.config (state_at made.states i) (going.used.agreed i))
    | inr high ↦
        subst (IsIdSet sc.config.nodes)
        (sym (ap (λ (xs : List (List ℕ)). get_or xs i []) going.members
        ∙ get_or_past (members_through N made.states) i [] (let l = length-map-range_with_len (λ k. members_in (state_at made.states k)) 0 N in omega (arith, l, high))))
        (empty_set sc.config.nodes)
  ]

  module _ (given : IsScenario sc) (in_run : p < sc.periods) (first : ℕ) (x : Phase N) (at : IsPhaseAt sc p first full made x) where
    pub phase_set : 0 < first → first + sc.config.m < slot_count sc.config.m → IsSet x
    phase_set behind slots =
        let config : IsConfig N sc.config = given.system.config in
        let few = config.few_nodes in
        record {
          capacity = given.system.capacity;
          config = subst (IsConfig N) (sym at.config) config;
          plan_nodes = ap (λ y. y.nodes) at.plan ∙ given.system.plan_nodes ∙ sym (ap (λ y. y.nodes) at.config);
          plan_rounds = ap (λ y. y.rounds) at.plan ∙ given.system.plan_rounds ∙ sym (ap (λ y. y.m) at.config);
          period = let e = ap (λ y. y.periods) at.plan in let e2 = at.period in let e3 = given.plan_periods in omega arith;
          behind = let e = at.first_is in omega arith;
          slots = subst (λ (c : Config N). x.first + c.m < slot_count c.m) (sym at.config) (subst (λ (k : ℕ). k + sc.config.m < slot_count sc.config.m) (sym at.first_is) slots);
          members = λ i. subst (λ (c : Config N). IsIdSet c.nodes (members_at x i)) (sym at.config) (subst (λ (xs : List (List ℕ)). IsIdSet sc.config.nodes (get_or xs i [])) (sym at.members) (members_set i));
          full = λ q on. ap (λ (s : List ℕ). has_id s q) at.awake ∙ full_awake few q (sym (ap (λ (s : List ℕ). has_id s q) at.full_is) ∙ on);
          awake = λ q on. let low = awake_low q (sym (ap (λ (s : List ℕ). has_id s q) at.awake) ∙ on) in let e = ap (λ y. y.nodes) at.config in omega arith;
        }

    pub full_same : (i : ℕ) → i < sc.config.nodes → has_id x.full i ≡ is_full sc p i
    full_same i low = ap (λ (s : List ℕ). has_id s i) at.full_is ∙ going.full_are i ∙ ap (λ (b : Bool). b && is_full sc p i) (lt-ltb i sc.config.nodes low)

    pub members_same : (i : ℕ) → i < sc.config.nodes → members_at x i ≡ members_in (through sc p i)
    members_same i low =
        let few = given.system.config.few_nodes in
        ap (λ (xs : List (List ℕ)). get_or xs i []) at.members ∙ members_state i (omega arith) ∙ ap members_in (going.states i low)

    low_same : (i : ℕ) → i < x.config.now.nodes → i < sc.config.nodes
    low_same i low = let e = ap (λ y. y.nodes) at.config in omega arith

    module _ {V : Type 0} (eq : V → V → Bool) (form : ItemForm V) (start : ℕ → ℕ) (tells : System → ℕ → ℕ → V) (starts : start sc.config.m ≡ first) where
      pub phase_run : (item : ℕ → V) → AreTold tells sc p full item → IsPhaseOf form start tells (system_of sc) x item
      phase_run item told = record {
        accepted = given.system;
        setting = ap (λ (c : Config N). setting_of c) (sym at.config);
        plan = sym at.plan;
        first_is = at.first_is ∙ sym starts ∙ ap (λ (c : Config N). start c.m) (sym at.config);
        members = λ i low.
            ap (λ (q : ℕ). members_of (system_of sc) q (goes_in (system_of sc) q) i) at.period ∙ members_are sc p i ∙ sym (members_same i (low_same i low));
        full = λ i low. ap (λ (q : ℕ). full_at (system_of sc) q (goes_in (system_of sc) q) i) at.period ∙ sym (full_same i (low_same i low));
        told = λ i low on. ap (λ (q : ℕ). tells (system_of sc) q i) at.period ∙ told i (sym (ap (λ (s : List ℕ). has_id s i) at.full_is) ∙ on);
      }

      pub phase_done : (s : ItemPhase V N) → 0 < first → first + sc.config.m < slot_count sc.config.m → AreTold tells sc p full (item_of s.links) → IsSettled eq form start tells x s
          → IsDone eq form start tells sc p x s
      phase_done s behind slots told settled =
          let few = given.system.config.few_nodes in
          record {
            config = at.config;
            period = at.period;
            set = phase_set behind slots;
            run = phase_run (item_of s.links) told;
            full = full_same;
            awake = λ i a low is. ap (λ (q : List ℕ). has_id q i) at.awake ∙ through_awake few i a low is;
            members = λ i a low is. members_same i low ∙ ap members_in is;
            settled = settled;
          }

-- ---- what is settled is what the run has of it

-- the item of a node that isn't Full makes no difference to it
pub own_unused : {V : Type 0} (eq : V → V → Bool) (x : Ear V) (own other : Wrapped V) (c : ℕ) → (x.full ≡ true → own ≡ other) → settled_from eq x own c ≡ settled_from eq x other c
own_unused eq x own other c same = ap (λ (w : Wrapped _). if c == x.me then w else settled_at eq x (c ∷ [])) (if_full x.full own other (Fault 0) same)

module _ {V : Type 0} {N : ℕ} (eq : V → V → Bool) (form : ItemForm V) (start : ℕ → ℕ) (tells : System → ℕ → ℕ → V) (law : OfRunLaw N eq form start tells) (sc : ScenarioView N) (p : ℕ) (x : Phase N) (s : ItemPhase V N) (d : IsDone eq form start tells sc p x s) where
  -- what node i knows, which goes through the period with state a
  abbrev pub ear_in : ℕ → AgreedView → Ear V
  ear_in i a = ear_of sc.config.m i (is_full sc p i) a.standing.members (rounds_upto (talk_of form start tells (system_of sc) p) sc.config.m i)

  pub ear_same : (i : ℕ) (a : AgreedView) → i < sc.config.nodes → through sc p i ≡ Some a → heard_in form start tells (system_of sc) x i ≡ ear_in i a
  ear_same i a low is =
      ap (λ (c : Config N). ear_of c.m i (has_id x.full i) (members_at x i) (rounds_upto (talk_of form start tells (system_of sc) x.period) c.m i)) d.config
      ∙ ap (λ (q : ℕ). ear_of sc.config.m i (has_id x.full i) (members_at x i) (rounds_upto (talk_of form start tells (system_of sc) q) sc.config.m i)) d.period
      ∙ ap₂ (λ (b : Bool) (ms : List ℕ). ear_of sc.config.m i b ms (rounds_upto (talk_of form start tells (system_of sc) p) sc.config.m i)) (d.full i low) (d.members i a low is)

  low_in : (i : ℕ) → i < sc.config.nodes → i < x.config.now.nodes
  low_in i low = let e = ap (λ y. y.nodes) d.config in omega arith

  own_same : (i : ℕ) (own : V) → i < sc.config.nodes → (is_full sc p i ≡ true → tells (system_of sc) p i ≡ own) → is_full sc p i ≡ true → Plain (item_of s.links i) ≡ Plain own
  own_same i own low tells_own on =
      ap Plain (sym (d.run.told i (low_in i low) (d.full i low ∙ on)) ∙ ap (λ (q : ℕ). tells (system_of sc) q i) d.period ∙ tells_own on)

  -- what it settles
  pub settles_same : (i : ℕ) (a : AgreedView) (own : V) → i < sc.config.nodes → through sc p i ≡ Some a → (is_full sc p i ≡ true → tells (system_of sc) p i ≡ own)
      → (c : ℕ) → has_id (members_at x i) c ≡ true → node_settles eq form x s i c ≡ settled_from eq (ear_in i a) (Plain own) c
  settles_same i a own low is tells_own c on =
      (law (system_of sc) x s.links d.set d.run i (d.awake i a low is)).settled (Plain (item_of s.links i)) c on
      ∙ ap (λ (e : Ear V). settled_from eq e (Plain (item_of s.links i)) c) (ear_same i a low is)
      ∙ own_unused eq (ear_in i a) (Plain (item_of s.links i)) (Plain own) c (own_same i own low tells_own)

  pub item_same : (i : ℕ) (a : AgreedView) (own : V) → i < sc.config.nodes → through sc p i ≡ Some a → (is_full sc p i ≡ true → tells (system_of sc) p i ≡ own)
      → (c : ℕ) → node_item eq form x s i c ≡ (if has_id a.standing.members c then plain (settled_from eq (ear_in i a) (Plain own) c) else None)
  item_same i a own low is tells_own c =
      if_full (has_id (members_at x i) c) (plain (node_settles eq form x s i c)) (plain (settled_from eq (ear_in i a) (Plain own) c)) None (λ on. ap plain (settles_same i a own low is tells_own c on))
      ∙ ap (λ (ms : List ℕ). if has_id ms c then plain (settled_from eq (ear_in i a) (Plain own) c) else None) (d.members i a low is)

  -- whom it convicts
  pub convicts_same : (i : ℕ) (a : AgreedView) → i < sc.config.nodes → through sc p i ≡ Some a → (c : ℕ) → c ≢ i → convicts_member eq (listener form x s.links i) c ≡ convicts_member eq (ear_in i a) c
  convicts_same i a low is c other =
      (law (system_of sc) x s.links d.set d.run i (d.awake i a low is)).convicted c other ∙ ap (λ (e : Ear V). convicts_member eq e c) (ear_same i a low is)

  -- and what it finds of frames
  pub bad_same : (i : ℕ) (a : AgreedView) → i < sc.config.nodes → through sc p i ≡ Some a → (j e : ℕ) → j < sc.config.nodes → j ≢ i
      → rounds_bad x.config.now.m (rounds_of form x s.links i) j e ≡ rounds_bad sc.config.m (rounds_upto (talk_of form start tells (system_of sc) p) sc.config.m i) j e
  bad_same i a low is j e used other =
      (law (system_of sc) x s.links d.set d.run i (d.awake i a low is)).bad j e (low_in j used) other
      ∙ ap (λ (c : Config N). rounds_bad c.m (rounds_upto (talk_of form start tells (system_of sc) x.period) c.m i) j e) d.config
      ∙ ap (λ (q : ℕ). rounds_bad sc.config.m (rounds_upto (talk_of form start tells (system_of sc) q) sc.config.m i) j e) d.period

-- nodes that settle alike have the same items
pub alike_item : {V : Type 0} {N : ℕ} (eq : V → V → Bool) (form : ItemForm V) (x : Phase N) (s : ItemPhase V N) (i j c : ℕ) → SettleAlike eq form x s i j → node_item eq form x s i c ≡ node_item eq form x s j c
alike_item eq form x s i j c alike =
    if_full (has_id (members_at x i) c) (plain (node_settles eq form x s i c)) (plain (node_settles eq form x s j c)) None (λ on. ap plain (alike.1 c on))
    ∙ ap (λ (ms : List ℕ). if has_id ms c then plain (node_settles eq form x s j c) else None) alike.0
