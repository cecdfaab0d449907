-- Who leaves and who joins in a claimed period, by the standings before and after it.
use Rattle.std.proofs.Common.{◌≡◌, ◌≢◌, ℕ, zero, suc, ◌+◌, ◌-◌, ◌<◌, ◌≤◌, Bool, true, false, cond, not, ◌&&◌, ◌⊎◌, List, Option, None, Some, refl, sym, ap, ap₂, subst, ◌∙◌, inl, inr, arith}
use Rattle.std.specs.List.{find, range_with_len}
use Rattle.std.proofs.lemmas.Bool.{cases_Bool, cases_lt}
use Rattle.node_grid.specs.Class.{is_nonfaulty, is_sound, IsWithin}
use Rattle.node_grid.specs.NodeSet.{has_id}
use Rattle.node_grid.specs.TruthFacts.{is_n}
use Rattle.membership.specs.Members.{Standing}
use Rattle.agreed_state.specs.declared.config.Inputs.{Inputs}
use Rattle.agreed_state.specs.Agreed.{AgreedView}
use Rattle.protocol.specs.View.{Mode, Setting, Kept, Received, adopted_by, through, joined, view_from}
use Rattle.protocol.specs.Run.{members_in}
use Rattle.protocol.specs.Cluster.{begins}
use Rattle.protocol.specs.Safe.{members_from, reference, KeepsBound, Safe}
use Rattle.safety.specs.Lifetime.{standing_of, HaveStanding}
use Rattle.scenario.specs.Scenario.{ScenarioView, system_of}
use Rattle.cluster_periods.specs.Laws.{run_of, classes_of}
use Rattle.run_judged.specs.Signs.{outcome_among, members_of, members_by, members_after, is_left, is_joined}
use Rattle.run_judged.specs.Numbers.{first_in}
use Rattle.run_judged.specs.Deadlines.{IsBy}
use Rattle.run_judged.specs.Rows.{period_of, seen_of}
use Rattle.run_judged.proofs.Founds.{joined_some}
use Rattle.run_judged.proofs.Shown.{outcome_is, found_below}

-- ---- the first number that passes

found_by : (test : ℕ → Bool) (a n q : ℕ) → a ≤ q → q < a + n → test q ≡ true → IsBy (find test (range_with_len a n)) q
found_by test a zero q low high on = absurd (omega arith)
found_by test a (suc n) q low high on = elim (cases_Bool (test a)) [
  | inl here ↦ record { period = a; is = ap (λ (b : Bool). cond b (Some a) (find test (range_with_len (a + 1) n))) here; in_time = low }
  | inr not_here ↦ elim (cases_lt a q) [
    | inl later ↦
        let rest = found_by test (a + 1) n q (omega arith) (omega arith) on in
        record { period = rest.period; is = ap (λ (b : Bool). cond b (Some a) (find test (range_with_len (a + 1) n))) not_here ∙ rest.is; in_time = rest.in_time }
    | inr now ↦ let same : q ≡ a = omega arith in let both : true ≡ false = sym on ∙ ap test same ∙ not_here in absurd (cc)
  ]
]

pub first_by : (test : ℕ → Bool) (low high q : ℕ) → low ≤ q → q < high → test q ≡ true → IsBy (first_in test low high) q
unfolding first_in
first_by test low high q l h on = found_by test low (high - low) q l (omega arith) on

found_passes : (test : ℕ → Bool) (a n q : ℕ) → find test (range_with_len a n) ≡ Some q → test q ≡ true
found_passes test a zero q e = cc
found_passes test a (suc n) q e = elim (cases_Bool (test a)) [
  | inl on ↦ let s : Some a ≡ Some q = ap (λ (b : Bool). cond b (Some a) (find test (range_with_len (a + 1) n))) (sym on) ∙ e in let same : a ≡ q = cc in ap test (sym same) ∙ on
  | inr off ↦ found_passes test (a + 1) n q (ap (λ (b : Bool). cond b (Some a) (find test (range_with_len (a + 1) n))) (sym off) ∙ e)
]

pub first_passes : (test : ℕ → Bool) (low high q : ℕ) → first_in test low high ≡ Some q → test q ≡ true
unfolding first_in
first_passes test low high q e = found_passes test low (high - low) q e

-- ---- where a test turns

-- f has the value b at number q, and the other at the next
pub record Turns (f : ℕ → Bool) (b : Bool) (low high : ℕ) : Type 0 where
  pub at : ℕ
  pub from : low ≤ at
  pub upto : at ≤ high
  pub before : f at ≡ b
  pub after : f (suc at) ≡ not b

-- one of the two is the one, or the other
turned : (b c : Bool) → (c ≡ b) ⊎ (c ≡ not b)
turned true true = inl refl
turned true false = inr refl
turned false true = inr refl
turned false false = inl refl

pub turns : (f : ℕ → Bool) (b : Bool) (p k : ℕ) → f p ≡ b → f (suc (p + k)) ≡ not b → Turns f b p (p + k)
turns f b p zero was is =
    let e : suc (p + 0) ≡ suc p = omega arith in
    record { at = p; from = omega arith; upto = omega arith; before = was; after = ap f (sym e) ∙ is }
turns f b p (suc k) was is = elim (turned b (f (suc p))) [
  | inl same ↦
      let step : suc (p + suc k) ≡ suc (suc p + k) = omega arith in
      let rest = turns f b (suc p) k same (ap f (sym step) ∙ is) in
      let from = rest.from in
      let upto = rest.upto in
      record { at = rest.at; from = omega arith; upto = omega arith; before = rest.before; after = rest.after }
  | inr other ↦ record { at = p; from = omega arith; upto = omega arith; before = was; after = other }
]

-- ---- one period

-- a Full node goes through the period with the state that it had
not_joined : (s : Setting) (i p : ℕ) (g : Inputs) (kept : Kept) (x : Received) (o : Option AgreedView) → (joined s i p g kept x o).mode ≢ Mode.Full
unfolding through
not_joined s i p g kept x None e = cc
not_joined s i p g kept x (Some b) e = cc

full_state : (s : Setting) (i p : ℕ) (g : Inputs) (kept : Kept) (x : Received) (o : Option AgreedView) (a : AgreedView)
    → (view_from s i p g kept x o).mode ≡ Mode.Full → (view_from s i p g kept x o).before ≡ Some a → o ≡ Some a
unfolding through
full_state s i p g kept x (Some b) a full goes = goes
full_state s i p g kept x None a full goes = absurd (not_joined s i p g kept x (adopted_by s i x.sync) full)

module _ {capacity : ℕ} (sc : ScenarioView capacity) (p : ℕ) (safe : Safe (run_of sc) (classes_of sc) p) (standing : HaveStanding (system_of sc) p) where
  -- the members of the reference node's state are those of the standing
  members_by_reference : (ref : Option ℕ) → reference (run_of sc) (classes_of sc) p ≡ ref → IsWithin (classes_of sc p) (members_from (run_of sc) p ref) (run_of sc).setting.config.m
      → members_from (run_of sc) p ref ≡ (standing_of (system_of sc) p).members
  members_by_reference None e within = absurd (let l = within.enough in omega arith)
  members_by_reference (Some r) e within =
      let nonfaulty = is_n (classes_of sc p r) (found_below (λ i. is_nonfaulty (classes_of sc p i)) sc.config.nodes r e).0 in
      let stands = standing r (ap is_sound nonfaulty) in
      let begun = begins (run_of sc) r p in
      let state : begun.state ≡ Some stands.before =
      full_state (run_of sc).setting r p ((run_of sc).inputs r p) begun ((run_of sc).received r p) begun.state stands.before (safe.equal.full r nonfaulty) stands.goes in
      ap members_in state ∙ ap (λ (x : Standing). x.members) stands.stands

  members_are : KeepsBound (run_of sc) (classes_of sc) p → (period_of sc p).members ≡ (standing_of (system_of sc) p).members
  members_are within = members_by_reference (reference (run_of sc) (classes_of sc) p) refl within

  -- and those of the state that it ends with are those of the next standing
  after_by : (ref : Option ℕ) → reference (run_of sc) (classes_of sc) p ≡ ref → KeepsBound (run_of sc) (classes_of sc) p
      → members_by (outcome_among (period_of sc p).records ref) ≡ Some (standing_of (system_of sc) (suc p)).members
  after_by None e within = absurd (let l = (subst (λ (x : Option ℕ). IsWithin (classes_of sc p) (members_from (run_of sc) p x) (run_of sc).setting.config.m) e within).enough in omega arith)
  after_by (Some r) e within =
      let found = found_below (λ i. is_nonfaulty (classes_of sc p i)) sc.config.nodes r e in
      let nonfaulty = is_n (classes_of sc p r) found.0 in
      let stands = standing r (ap is_sound nonfaulty) in
      ap members_by (outcome_is sc p r found.1) ∙ ap members_of stands.ends ∙ ap (λ (x : Standing). Some x.members) stands.stands_after

  after_is : KeepsBound (run_of sc) (classes_of sc) p → members_after (period_of sc p) ≡ Some (standing_of (system_of sc) (suc p)).members
  after_is within = after_by (reference (run_of sc) (classes_of sc) p) refl within

  pub member_seen : (j : ℕ) → KeepsBound (run_of sc) (classes_of sc) p → (seen_of sc j p).member ≡ has_id (standing_of (system_of sc) p).members j
  unfolding seen_of
  member_seen j within = ap (λ (s : List ℕ). has_id s j) (members_are within)

  pub left_seen : (j : ℕ) → KeepsBound (run_of sc) (classes_of sc) p
      → (seen_of sc j p).left ≡ (has_id (standing_of (system_of sc) p).members j && not (has_id (standing_of (system_of sc) (suc p)).members j))
  unfolding seen_of
  left_seen j within = ap₂ (λ (s : List ℕ) (o : Option (List ℕ)). is_left s o j) (members_are within) (after_is within)

  pub joined_seen : (j : ℕ) → KeepsBound (run_of sc) (classes_of sc) p
      → (seen_of sc j p).joined ≡ (has_id (standing_of (system_of sc) (suc p)).members j && not (has_id (standing_of (system_of sc) p).members j))
  unfolding seen_of
  joined_seen j within =
      ap₂ (λ (s : List ℕ) (o : Option (List ℕ)). is_joined s o j) (members_are within) (after_is within)
      ∙ joined_some (standing_of (system_of sc) p).members (standing_of (system_of sc) (suc p)).members j
      (λ none. let l = (subst (λ (s : List ℕ). IsWithin (classes_of sc p) s (run_of sc).setting.config.m) (members_are within ∙ none) within).enough in omega arith)
