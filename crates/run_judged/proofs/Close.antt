-- How far votes and clocks of sound nodes are apart in a claimed period.
use Rattle.std.proofs.Common.{◌≡◌, ℕ, zero, suc, ◌+◌, ◌*◌, ◌/◌, ◌<◌, ◌≤◌, Bool, true, false, cond, int_lt, ℤ, pos, List, [], map, replicate, length, Option, None, Some, refl, sym, ap, subst, ◌∙◌, inl, inr, arith, lt-ltb}
use Rattle.std.specs.Prelude.{nat_lt, nat_le, option_map, slice_get, slice_index_or, if◌then◌else◌, unsigned_abs}
use Rattle.std.specs.Int.{int_min, int_max}
use Rattle.std.specs.List.{filter_map, range_with_len, cons_option}
use Rattle.std.proofs.lemmas.Bool.{cases_Bool, cases_lt, and_parts, ltb-true, cond-true, cond-false}
use Rattle.std.proofs.lemmas.Option.{none-some, same_Some}
use Rattle.std.proofs.lemmas.List.{get_or_past}
use Rattle.std.proofs.lemmas.List.FromFn.{get_or-map-range_with_len, length-map-range_with_len}
use Rattle.node_grid.specs.NodeSet.{ids_below, has_id}
use Rattle.node_grid.specs.Class.{is_sound, is_nonfaulty}
use Rattle.node_grid.specs.TruthFacts.{is_n}
use Rattle.mme_vote.specs.Channel.{is_judged}
use Rattle.mme_vote.specs.Vote.{distance}
use Rattle.clock_skew.specs.Clock.{ClockView}
use Rattle.agreed_state.specs.declared.config.Inputs.{Inputs}
use Rattle.agreed_state.specs.Agreed.{AgreedView}
use Rattle.omh_paths.specs.declared.wrapped.Wrapped.{Wrapped}
use Rattle.protocol.specs.Run.{members_in}
use Rattle.protocol.specs.View.{Setting, Kept, Received, channel, channel_room, own_in, value_at, vote_on, votes_on, adopted_by, joined, through, view_from}
use Rattle.protocol.specs.View.Mode.{Full}
use Rattle.protocol.specs.Cluster.{view, begins}
use Rattle.protocol.specs.Safe.{Safe, reference, members_from, members_at}
use Rattle.protocol.specs.Clocks.{offsets, ClocksNear}
use Rattle.node_steps.specs.Outcome.{Outcome}
use Rattle.scenario.specs.Scenario.{ScenarioView, system_of}
use Rattle.cluster_periods.specs.Record.{holds, budget_in, within_in, claimed_before, clock_in, offsets_in}
use Rattle.cluster_periods.specs.Laws.{run_of, classes_of, IsClaimed, SafeLaw, ClockLaw}
use Rattle.run_judged.specs.Apart.{widened, range_with, width, apart, is_sound_in, vote_on as vote_by, vote_in, votes_apart, offset_of, offset_in, clocks_apart}
use Rattle.run_judged.specs.Rows.{period_of}
use Rattle.run_judged.specs.Laws.{MembersWithin, SpreadLaw, SkewLaw}
use Rattle.run_judged.proofs.Shown.{class_is, outcome_is, found_below}

-- ---- the ends of a range are two of its numbers

abbrev BothEnds : (ℤ → Type 0) → Option (ℤ × ℤ) → Type 0
BothEnds P None = Unit {0}
BothEnds P (Some b) = P b.0 × P b.1

lesser_one : (P : ℤ → Type 0) (x y : ℤ) → P x → P y → P (int_min x y)
lesser_one P x y p q = elim (int_lt y x) as (λ b. P (cond b y x)) [ true ↦ q | false ↦ p ]

greater_one : (P : ℤ → Type 0) (x y : ℤ) → P x → P y → P (int_max x y)
greater_one P x y p q = elim (int_lt y x) as (λ b. P (cond b x y)) [ true ↦ p | false ↦ q ]

with_one : (P : ℤ → Type 0) (r : Option (ℤ × ℤ)) (x : ℤ) → P x → BothEnds P r → BothEnds P (Some (widened r x))
with_one P None x p ends = (p, p)
with_one P (Some b) x p ends = (lesser_one P b.0 x ends.0 p, greater_one P b.1 x ends.1 p)

-- numbers that each node gives for which something holds
ends_of : (P : ℤ → Type 0) (f : ℕ → Option ℤ) (a n : ℕ) (r : Option (ℤ × ℤ)) → ((j : ℕ) (x : ℤ) → j < a + n → f j ≡ Some x → P x) → BothEnds P r
    → BothEnds P (range_with r (filter_map f (range_with_len a n)))
ends_of P f a zero r each ends = ends
ends_of P f a (suc n) r each ends =
    elim (f a) as (λ o. f a ≡ o → BothEnds P (range_with r (cons_option o (filter_map f (range_with_len (a + 1) n))))) [
      | None ↦ λ e. ends_of P f (a + 1) n r (λ j x low. each j x (omega arith)) ends
      | Some x ↦ λ e. ends_of P f (a + 1) n (Some (widened r x)) (λ j y low. each j y (omega arith)) (with_one P r x (each a x (omega arith) e) ends)
    ] refl

-- a number of some node
abbrev Given : (ℕ → Option ℤ) → ℕ → ℤ → Type 0
Given f nodes x = (j : ℕ) × (j < nodes) × (f j ≡ Some x)

width_le : (f : ℕ → Option ℤ) (nodes bound d : ℕ) (r : Option (ℤ × ℤ)) → ((i j : ℕ) (x y : ℤ) → i < nodes → j < nodes → f i ≡ Some x → f j ≡ Some y → distance x y ≤ bound)
    → BothEnds (Given f nodes) r → width r ≡ Some d → d ≤ bound
width_le f nodes bound d None each ends e = cc
width_le f nodes bound d (Some b) each ends e =
    let same : distance b.0 b.1 ≡ d = cc in
    let near = each ends.0.0 ends.1.0 b.0 b.1 ends.0.1 ends.1.1 ends.0.2 ends.1.2 in
    omega arith

-- what bounds how far any two nodes' numbers are apart bounds how far they all are
pub apart_le : (f : ℕ → Option ℤ) (nodes bound d : ℕ) → ((i j : ℕ) (x y : ℤ) → i < nodes → j < nodes → f i ≡ Some x → f j ≡ Some y → distance x y ≤ bound)
    → apart (filter_map f (ids_below nodes)) ≡ Some d → d ≤ bound
apart_le f nodes bound d each e =
    width_le f nodes bound d (range_with None (filter_map f (ids_below nodes))) each
    (ends_of (Given f nodes) f 0 nodes None (λ j x low is. (j, omega arith, is)) tt) e

-- ---- votes

-- a channel on which a node votes is due
voted : (s : Setting) (i : ℕ) (full : Bool) (a : AgreedView) (done : List (Wrapped ℕ)) (due : List ℕ) (own : List (Option ℤ)) (x : Received) (c : ℕ) (v : ℤ)
    → value_at (votes_on s i full a done due own x) c ≡ Some v → has_id due c ≡ true
unfolding votes_on
voted s i full a done due own x c v e =
    let g = λ (k : ℕ). if has_id due k then vote_on s i full a done due own x k else None in
    elim (cases_lt c channel_room) [
      | inl low ↦
          let here : g c ≡ Some v = sym (get_or-map-range_with_len g 0 channel_room c c None low (omega arith)) ∙ e in
          elim (cases_Bool (has_id due c)) [ inl on ↦ on | inr off ↦ let none : None ≡ Some v = sym (cond-false (has_id due c) (vote_on s i full a done due own x c) None off) ∙ here in absurd (none-some v none) ]
      | inr high ↦ let none : None ≡ Some v = sym (get_or_past (map g (ids_below channel_room)) c None (omega (arith, high, length-map-range_with_len g 0 channel_room))) ∙ e in absurd (none-some v none)
    ]

voted_through : (s : Setting) (i p : ℕ) (g : Inputs) (kept : Kept) (x : Received) (full : Bool) (a : AgreedView) (c : ℕ) (v : ℤ)
    → value_at (through s i p g kept x full a).votes c ≡ Some v → has_id (through s i p g kept x full a).due c ≡ true
unfolding through
voted_through s i p g kept x full a c v e = voted s i full a _ _ _ x c v e

cold_votes : (c n : ℕ) → value_at (replicate n None) c ≡ None
cold_votes c zero = refl
cold_votes zero (suc n) = refl
cold_votes (suc c) (suc n) = cold_votes c n

voted_joined : (s : Setting) (i p : ℕ) (g : Inputs) (kept : Kept) (x : Received) (o : Option AgreedView) (c : ℕ) (v : ℤ)
    → value_at (joined s i p g kept x o).votes c ≡ Some v → has_id (joined s i p g kept x o).due c ≡ true
voted_joined s i p g kept x None c v e = let none : None ≡ Some v = sym (cold_votes c channel_room) ∙ e in absurd (none-some v none)
voted_joined s i p g kept x (Some a) c v e = voted_through s i p g kept x false a c v e

voted_from : (s : Setting) (i p : ℕ) (g : Inputs) (kept : Kept) (x : Received) (o : Option AgreedView) (c : ℕ) (v : ℤ)
    → value_at (view_from s i p g kept x o).votes c ≡ Some v → has_id (view_from s i p g kept x o).due c ≡ true
voted_from s i p g kept x (Some a) c v e = voted_through s i p g kept x true a c v e
voted_from s i p g kept x None c v e = voted_joined s i p g kept x (adopted_by s i x.sync) c v e

-- a Full node goes through the period with the state that it had before it
full_joined : (s : Setting) (i p : ℕ) (g : Inputs) (kept : Kept) (x : Received) (o : Option AgreedView) → (joined s i p g kept x o).mode ≡ Full → (joined s i p g kept x o).before ≡ None
unfolding through
full_joined s i p g kept x None e = cc
full_joined s i p g kept x (Some a) e = cc

full_before : (s : Setting) (i p : ℕ) (g : Inputs) (kept : Kept) (x : Received) (o : Option AgreedView) → (view_from s i p g kept x o).mode ≡ Full → (view_from s i p g kept x o).before ≡ o
unfolding through
full_before s i p g kept x (Some a) e = refl
full_before s i p g kept x None e = full_joined s i p g kept x (adopted_by s i x.sync) e

if_some : (b : Bool) (o : Option ℤ) (x : ℤ) → (if b then o else None) ≡ Some x → (b ≡ true) × (o ≡ Some x)
if_some true o x e = (refl, e)
if_some false o x e = absurd (none-some x e)

module _ {capacity : ℕ} (sc : ScenarioView capacity) (fits : sc.config.nodes ≤ capacity) (p : ℕ) where
  sound_by : (j : ℕ) → j < sc.config.nodes → is_sound_in (period_of sc p) j ≡ true → is_sound (classes_of sc p j) ≡ true
  sound_by j low e = ap is_sound (sym (class_is sc p j fits low)) ∙ e

  -- the vote of a sound node is its view's
  vote_is : (c j : ℕ) (x : ℤ) → j < sc.config.nodes → vote_in (period_of sc p) c j ≡ Some x → (is_sound (classes_of sc p j) ≡ true) × (value_at (view (run_of sc) j p).votes c ≡ Some x)
  vote_is c j x low e =
      let parts = if_some (is_sound_in (period_of sc p) j) (vote_by (slice_get (period_of sc p).records j) c) x e in
      (sound_by j low parts.0, ap (λ (o : Option Outcome). vote_by o c) (sym (outcome_is sc p j low)) ∙ parts.1)

  due_at : (c j : ℕ) (x : ℤ) → value_at (view (run_of sc) j p).votes c ≡ Some x → has_id (view (run_of sc) j p).due c ≡ true
  due_at c j x e =
      let cl = run_of sc in
      voted_from cl.setting j p (cl.inputs j p) (begins cl j p) (cl.received j p) (begins cl j p).state c x e

  -- the members of a claimed period are those of the state that all sound nodes have
  members_from_state : (safe : Safe (run_of sc) (classes_of sc) p) (ref : Option ℕ) → reference (run_of sc) (classes_of sc) p ≡ ref → holds (budget_in (system_of sc) p) sc.config.m ≡ true
      → members_at (run_of sc) (classes_of sc) p ≡ safe.equal.before.standing.members
  members_from_state safe None e kept =
      let cl = run_of sc in
      let none : members_at cl (classes_of sc) p ≡ [] = ap (members_from cl p) e in
      let long : length (members_at cl (classes_of sc) p) ≡ 0 = ap (λ (ms : List ℕ). length ms) none in
      let both = and_parts (nat_le (budget_in (system_of sc) p).a sc.config.m)
      (nat_lt (2 * (budget_in (system_of sc) p).a + 2 * (budget_in (system_of sc) p).s + (budget_in (system_of sc) p).b + sc.config.m) (budget_in (system_of sc) p).n) kept in
      let less = ltb-true (2 * (budget_in (system_of sc) p).a + 2 * (budget_in (system_of sc) p).s + (budget_in (system_of sc) p).b + sc.config.m) (budget_in (system_of sc) p).n both.1 in
      absurd (omega arith)
  members_from_state safe (Some r) e kept =
      let cl = run_of sc in
      let found = found_below (λ i. is_nonfaulty (classes_of sc p i)) sc.config.nodes r e in
      let nonfaulty = is_n (classes_of sc p r) found.0 in
      let same : (view cl r p).before ≡ (begins cl r p).state = full_before cl.setting r p (cl.inputs r p) (begins cl r p) (cl.received r p) (begins cl r p).state (safe.equal.full r nonfaulty) in
      ap (members_from cl p) e ∙ ap members_in (sym same ∙ safe.equal.goes r (ap is_sound nonfaulty))

  kept_by : IsClaimed sc p → holds (budget_in (system_of sc) p) sc.config.m ≡ true
  unfolding claimed_before
  kept_by e = (and_parts (claimed_before (system_of sc) p) (within_in (system_of sc) p) e).1

  pub spread_le : (c d : ℕ) → IsClaimed sc p → Safe (run_of sc) (classes_of sc) p → is_judged (channel (run_of sc).setting c) ≡ true → votes_apart (period_of sc p) c ≡ Some d
      → (low high : ℤ) → MembersWithin sc p (λ q. own_in (view (run_of sc) q p).own c) low high → d ≤ (distance low high + 1) / 2
  spread_le c d claimed safe judged e low high within =
      let members = members_from_state safe (reference (run_of sc) (classes_of sc) p) refl (kept_by claimed) in
      apart_le (vote_in (period_of sc p) c) sc.config.nodes ((distance low high + 1) / 2) d
      (λ i j x y i_low j_low i_vote j_vote.
      let one = vote_is c i x i_low i_vote in
      let other = vote_is c j y j_low j_vote in
      let close = safe.votes i j c one.0 other.0 (due_at c i x one.1) judged in
      let first : Some x ≡ Some close.first = sym one.1 ∙ close.votes in
      let second : Some y ≡ Some close.second = sym other.1 ∙ close.votes_too in
      let near = (close.close low high (λ q on n. within q (subst (λ (ms : List ℕ). has_id ms q ≡ true) (sym members) on) n)).halved in
      subst (λ (z : ℤ). distance z y ≤ (distance low high + 1) / 2) (sym (same_Some x close.first first))
      (subst (λ (z : ℤ). distance close.first z ≤ (distance low high + 1) / 2) (sym (same_Some y close.second second)) near))
      e

  -- ---- clocks

  clock_is : (k : ClockView) (j : ℕ) (x : ℤ) → sc.clock ≡ Some k → j < sc.config.nodes → offset_in (period_of sc p) j ≡ Some x
      → (is_sound (classes_of sc p j) ≡ true) × (x ≡ offsets (run_of sc) k (suc p) j)
  clock_is k j x there low e =
      let parts = if_some (is_sound_in (period_of sc p) j) (offset_of (period_of sc p).clock j) x e in
      let shown : offset_of (period_of sc p).clock j ≡ Some (slice_index_or (offsets_in (system_of sc) k (suc p)) j (pos 0)) =
      ap (λ (o : Option ClockView). offset_of (option_map (λ c. clock_in (system_of sc) c p) o) j) there in
      let at : slice_index_or (offsets_in (system_of sc) k (suc p)) j (pos 0) ≡ offsets (run_of sc) k (suc p) j =
      get_or-map-range_with_len (λ i. if nat_lt i sc.config.nodes then offsets (run_of sc) k (suc p) i else pos 0) 0 capacity j j (pos 0) (omega arith) (omega arith)
      ∙ cond-true (nat_lt j sc.config.nodes) (offsets (run_of sc) k (suc p) j) (pos 0) (lt-ltb j sc.config.nodes low) in
      (sound_by j low parts.0, same_Some x (offsets (run_of sc) k (suc p) j) (sym parts.1 ∙ shown ∙ ap Some at))

  pub skew_le : (d : ℕ) (k : ClockView) → sc.clock ≡ Some k
      → ((i j : ℕ) → is_sound (classes_of sc p i) ≡ true → is_sound (classes_of sc p j) ≡ true → ClocksNear (run_of sc) (classes_of sc) k p (members_at (run_of sc) (classes_of sc) p) i j)
      → clocks_apart (period_of sc p) ≡ Some d
      → (low high : ℤ) → MembersWithin sc p (offsets (run_of sc) k p) low high → d ≤ (distance low high + 1) / 2 + 2 * unsigned_abs k.epsilon + unsigned_abs k.drift
  skew_le d k there near e low high within =
      let bound : ℕ = (distance low high + 1) / 2 + 2 * unsigned_abs k.epsilon + unsigned_abs k.drift in
      apart_le (offset_in (period_of sc p)) sc.config.nodes bound d
      (λ i j x y i_low j_low i_clock j_clock.
      let one = clock_is k i x there i_low i_clock in
      let other = clock_is k j y there j_low j_clock in
      subst (λ (z : ℤ). distance z y ≤ bound) (sym one.1)
      (subst (λ (z : ℤ). distance (offsets (run_of sc) k (suc p) i) z ≤ bound) (sym other.1) ((near i j one.0 other.0).skew low high within)))
      e

pub spread_law : SafeLaw → SpreadLaw
spread_law law capacity sc p c d is claimed judged e low high within = spread_le sc is.system.config.few_nodes p c d claimed (law capacity sc p is claimed) judged e low high within

pub skew_law : ClockLaw → SkewLaw
skew_law law capacity sc p d k is claimed there e low high within = skew_le sc is.system.config.few_nodes p d k there (law capacity sc p is claimed k there) e low high within
