-- The rounds of claims and of rows of a period, as the code has them.
use Rattle.std.specs.Prelude.{◌≡◌, ◌<◌, ℕ, ◌+◌, ◌&&◌, ◌==◌, nat_eq, Bool, true, List, map, Option, None, Some, if◌then◌else◌}
use Rattle.std.specs.Cmp.Lexicographic.{pointwise}
use Rattle.node_grid.specs.NodeSet.{ids_below, has_id}
use Rattle.node_grid.specs.Kinds.{equivocate}
use Rattle.omh_paths.specs.declared.wrapped.Wrapped.{Wrapped}
use Rattle.omh_paths.specs.declared.wrapped.Wrapped.TheVariants.{Plain}
use Rattle.omh.specs.Omh.{Ear, settled_from}
use Rattle.agreed_state.specs.Agreed.{AgreedView}
use Rattle.protocol.specs.Arrival.{ItemForm, claim_form, row_form}
use Rattle.protocol.specs.FurtherKinds.{convicts_member}
use Rattle.protocol.specs.Settled.{plain}
use Rattle.protocol.specs.View.{as_claim}
use Rattle.protocol.specs.Run.{System}
use Rattle.scenario.specs.Scenario.{ScenarioView, system_of}
use Rattle.touched_items.specs.ItemLaws.{claim_told, row_told}
use Rattle.heard_links.specs.declared.phase.Phase.{Phase}
use Rattle.heard_links.specs.Talks.{members_at, IsSet, IsPhaseOf}
use Rattle.heard_links.specs.Hearing.{item_of}
use Rattle.item_phase.specs.declared.item_phase.ItemPhase.{ItemPhase}
use Rattle.item_phase.specs.Settled.{IsSettled, listener}
use Rattle.shown_period.specs.declared.made.Made.{Made}
use Rattle.at_once.specs.Parts.{is_full, through}
use Rattle.at_once.specs.Course.{awake_in}

-- the rounds whose first slot this is, as the nodes go through them
pub record IsPhaseAt {N : ℕ} (sc : ScenarioView N) (p first : ℕ) (full : List ℕ) (made : Made N) (x : Phase N) : Type 0 where
  pub config : x.config.now ≡ sc.config
  pub plan : x.plan.now ≡ sc.plan
  pub period : x.period ≡ p
  pub first_is : x.first ≡ first
  pub full_is : x.full ≡ full
  pub awake : x.awake ≡ awake_in N made.states
  pub members : x.members ≡ made.members

-- Full nodes say of themselves what they tell in the run
abbrev pub AreTold : {V : Type 0} {N : ℕ} → (System → ℕ → ℕ → V) → ScenarioView N → ℕ → List ℕ → (ℕ → V) → Type 0
AreTold tells sc p full item = (i : ℕ) → has_id full i ≡ true → tells (system_of sc) p i ≡ item i

-- the rounds of one kind of item in period p of the scenario, in which all is settled
pub record IsDone {V : Type 0} {N : ℕ} (eq : V → V → Bool) (form : ItemForm V) (first : ℕ → ℕ) (tells : System → ℕ → ℕ → V) (sc : ScenarioView N) (p : ℕ) (x : Phase N) (s : ItemPhase V N) : Type 0 where
  pub config : x.config.now ≡ sc.config
  pub period : x.period ≡ p
  pub set : IsSet x
  pub run : IsPhaseOf form first tells (system_of sc) x (item_of s.links)
  pub full : (i : ℕ) → i < sc.config.nodes → has_id x.full i ≡ is_full sc p i
  pub awake : (i : ℕ) (a : AgreedView) → i < sc.config.nodes → through sc p i ≡ Some a → has_id x.awake i ≡ true
  pub members : (i : ℕ) (a : AgreedView) → i < sc.config.nodes → through sc p i ≡ Some a → members_at x i ≡ a.standing.members
  pub settled : IsSettled eq form first tells x s

-- all is settled of claims, and of rows
abbrev pub AreClaimsSettled : {N : ℕ} → Phase N → ItemPhase ℕ N → Type 0
AreClaimsSettled x s = IsSettled nat_eq claim_form (λ m. 1) claim_told x s

abbrev pub AreRowsSettled : {N : ℕ} → Phase N → ItemPhase (List ℕ) N → Type 0
AreRowsSettled x s = IsSettled (pointwise ◌==◌) row_form (λ m. m + 3) row_told x s

-- what awake node i settles of the item of its member c
abbrev pub node_settles : {V : Type 0} {N : ℕ} → (V → V → Bool) → ItemForm V → Phase N → ItemPhase V N → ℕ → ℕ → Wrapped V
node_settles eq form x s i c = settled_from eq (listener form x s.links i) (Plain (item_of s.links i)) c

-- the item that it settles; none of a node that is no member
abbrev pub node_item : {V : Type 0} {N : ℕ} → (V → V → Bool) → ItemForm V → Phase N → ItemPhase V N → ℕ → ℕ → Option V
node_item eq form x s i c = if has_id (members_at x i) c then plain (node_settles eq form x s i c) else None

-- the claims that it settles, and the rows
abbrev pub node_claims : {N : ℕ} → Phase N → ItemPhase ℕ N → ℕ → List (Wrapped ℕ)
node_claims {N} x s i = map (λ c. as_claim (node_item nat_eq claim_form x s i c)) (ids_below N)

abbrev pub node_rows : {N : ℕ} → Phase N → ItemPhase (List ℕ) N → ℕ → List (Option (List ℕ))
node_rows {N} x s i = map (node_item (pointwise ◌==◌) row_form x s i) (ids_below N)

-- two nodes have the same members, and settle the item of each alike
abbrev pub SettleAlike : {V : Type 0} {N : ℕ} → (V → V → Bool) → ItemForm V → Phase N → ItemPhase V N → ℕ → ℕ → Type 0
SettleAlike eq form x s i j = (members_at x i ≡ members_at x j) × ((c : ℕ) → has_id (members_at x i) c ≡ true → node_settles eq form x s i c ≡ node_settles eq form x s j c)

-- whom a node convicts
abbrev pub blames : {V : Type 0} → (V → V → Bool) → Ear V → ℕ → ℕ → Bool
blames eq ear c k = convicts_member eq ear c && k == equivocate
