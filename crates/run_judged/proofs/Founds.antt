-- What is found of a shown period, and what is seen of each node in the run.
use Rattle.std.proofs.Common.{◌≡◌, ◌≢◌, ℕ, ◌<◌, Bool, false, not, ◌&&◌, List, [], ◌∷◌, Option, None, Some, refl, sym, ap, ap₂, subst, ◌∙◌, arith}
use Rattle.std.specs.Prelude.{◌==◌, slice_index, IsTrue, ◌↔◌}
use Rattle.node_grid.specs.declared.class.Class.{Class}
use Rattle.node_grid.specs.NodeSet.{ids_where, has_id, minus_of}
use Rattle.node_grid.specs.NodeSetLaws.{has-filter, has_filtered}
use Rattle.node_grid.specs.Class.{is_sound, is_nonfaulty}
use Rattle.node_grid.specs.TruthFacts.{and_swap}
use Rattle.error_reports.specs.Charge.{charged_mask}
use Rattle.fault_classes.specs.Plan.{is_clean}
use Rattle.agreed_state.specs.Agreed.{AgreedView}
use Rattle.protocol.specs.Run.{run, classes}
use Rattle.protocol.specs.Safe.{reference}
use Rattle.node_steps.specs.Outcome.{Outcome}
use Rattle.scenario.specs.Scenario.{ScenarioView, system_of}
use Rattle.cluster_periods.specs.Record.{PeriodView}
use Rattle.shown_period.specs.declared.shown.Shown.{Shown}
use Rattle.shown_period.specs.Outcomes.{outcome_at}
use Rattle.shown_period.specs.Whole.{record_of}
use Rattle.shown_period.specs.WholeLaws.{shown_at}
use Rattle.at_once.specs.Run.{ShowsPeriod}
use Rattle.run_judged.specs.declared.illness.Sign.{Sign}
use Rattle.run_judged.specs.declared.found.Findings.{Findings}
use Rattle.run_judged.specs.Signs.{outcome_among, reference_outcome, is_charged_by, members_of, members_by, members_after, is_left, is_joined, sign_in}
use Rattle.run_judged.specs.Found.{class_at, sign_by, AreFound}
use Rattle.run_judged.specs.Rows.{seen_of}
use Rattle.run_judged.proofs.Shown.{found_below}

-- ---- sets

pub has_minus : (s t : List ℕ) (j : ℕ) → has_id (minus_of s t) j ≡ (has_id s j && not (has_id t j))
has_minus s t j = has_filtered (λ k. not (has_id t k)) s j ∙ and_swap (not (has_id t j)) (has_id s j)

pub joined_some : (before after : List ℕ) (j : ℕ) → before ≢ [] → is_joined before (Some after) j ≡ (has_id after j && not (has_id before j))
joined_some [] after j h = absurd (h refl)
joined_some (x ∷ xs) after j h = refl

pub joined_none : (before : List ℕ) (j : ℕ) → is_joined before None j ≡ false
joined_none [] j = refl
joined_none (x ∷ xs) j = refl

pub left_some : (before : List ℕ) (o : Option (List ℕ)) (after result : List ℕ) → o ≡ Some after → result ≡ minus_of before after → (j : ℕ) → has_id result j ≡ is_left before o j
left_some before o after result e is j = ap (λ (xs : List ℕ). has_id xs j) is ∙ has_minus before after j ∙ ap (λ (x : Option (List ℕ)). is_left before x j) (sym e)

pub joined_by : (before : List ℕ) (o : Option (List ℕ)) (after result : List ℕ) → before ≢ [] → o ≡ Some after → result ≡ minus_of after before → (j : ℕ) → has_id result j ≡ is_joined before o j
joined_by before o after result some e is j =
    ap (λ (xs : List ℕ). has_id xs j) is ∙ has_minus after before j ∙ sym (joined_some before after j some) ∙ ap (λ (x : Option (List ℕ)). is_joined before x j) (sym e)

pub not_empty : (b : Bool) (xs : List ℕ) → IsTrue b ↔ (xs ≡ []) → b ≡ false → xs ≢ []
not_empty b xs tells off e = let on = tells.1 e in absurd (cc)

-- ---- the reference node

-- it is in use
pub reference_in : {capacity : ℕ} (sc : ScenarioView capacity) (p : ℕ) (s : Shown capacity) → ShowsPeriod sc p s → s.head.nodes ≡ sc.config.nodes → (r : ℕ) → s.head.reference ≡ Some r → r < s.head.nodes
reference_in sc p s shown in_use r e =
    let is : reference (run (system_of sc)) (classes (system_of sc)) p ≡ Some r = sym (ap (λ (x : PeriodView). x.reference) shown) ∙ e in
    let low = (found_below (λ i. is_nonfaulty (classes (system_of sc) p i)) sc.config.nodes r is).1 in
    omega arith

pub reference_shown : {capacity : ℕ} (s : Shown capacity) (r : ℕ) → s.head.reference ≡ Some r → r < s.head.nodes → reference_outcome (record_of s) ≡ Some (outcome_at s.made r)
reference_shown s r e low = ap (outcome_among (record_of s).records) e ∙ shown_at s r low

pub no_reference : {capacity : ℕ} (s : Shown capacity) → s.head.reference ≡ None → reference_outcome (record_of s) ≡ None
no_reference s e = ap (outcome_among (record_of s).records) e

pub charged_shown : {capacity : ℕ} (s : Shown capacity) (r j : ℕ) (rows : List (Option (List ℕ))) (members masks : List ℕ) → s.head.reference ≡ Some r → r < s.head.nodes
    → rows ≡ (outcome_at s.made r).rows → members ≡ (outcome_at s.made r).members → slice_index masks j ≡ charged_mask rows members j
    → not (slice_index masks j == 0) ≡ is_charged_by (reference_outcome (record_of s)) j
charged_shown s r j rows members masks e low a b told =
    ap (λ (m : ℕ). not (m == 0)) (told ∙ ap₂ (λ (x : List (Option (List ℕ))) (y : List ℕ). charged_mask x y j) a b)
    ∙ sym (ap (λ (o : Option Outcome). is_charged_by o j) (reference_shown s r e low))

pub after_shown : {capacity : ℕ} (s : Shown capacity) (r : ℕ) (a : Option AgreedView) → s.head.reference ≡ Some r → r < s.head.nodes → a ≡ (outcome_at s.made r).agreed
    → members_after (record_of s) ≡ members_of a
after_shown s r a e low is = ap members_by (reference_shown s r e low) ∙ ap members_of (sym is)

-- ---- all of it

pub record Parts {capacity : ℕ} (sc : ScenarioView capacity) (p : ℕ) (s : Shown capacity) (f : Findings capacity) : Type 0 where
  pub in_use : s.head.nodes ≡ sc.config.nodes
  pub shown : ShowsPeriod sc p s
  pub period : f.period ≡ p
  pub nodes : f.nodes ≡ s.head.nodes
  pub classes : f.classes ≡ s.head.classes
  pub sound : f.sound ≡ ids_where (λ j. is_sound (class_at s.head.classes j)) s.head.nodes
  pub faulty : f.faulty ≡ ids_where (λ j. not (is_nonfaulty (class_at s.head.classes j))) s.head.nodes
  pub touched : f.touched ≡ ids_where (λ j. not (is_clean sc.plan p j)) s.head.nodes
  pub members : f.members ≡ s.head.members
  pub charged : (j : ℕ) → j < s.head.nodes → has_id f.charged j ≡ is_charged_by (reference_outcome (record_of s)) j
  pub left : (j : ℕ) → has_id f.left j ≡ is_left s.head.members (members_after (record_of s)) j
  pub joined : (j : ℕ) → has_id f.joined j ≡ is_joined s.head.members (members_after (record_of s)) j

module _ {capacity : ℕ} (sc : ScenarioView capacity) (p : ℕ) (s : Shown capacity) (f : Findings capacity) (h : Parts sc p s f) where
  seen_is : (j : ℕ) → sign_in sc.plan (record_of s) j ≡ seen_of sc j p
  unfolding seen_of
  seen_is j = ap (λ (r : PeriodView). sign_in sc.plan r j) h.shown

  sign_is : (j : ℕ) → j < s.head.nodes → sign_by f j ≡ sign_in sc.plan (record_of s) j
  sign_is j low =
      let period : s.head.period ≡ p = ap (λ (r : PeriodView). r.period) h.shown in
      let class : class_at f.classes j ≡ class_at s.head.classes j = ap (λ (cs : List Class). class_at cs j) h.classes in
      let touched : has_id f.touched j ≡ not (is_clean sc.plan s.head.period j) =
      ap (λ (xs : List ℕ). has_id xs j) h.touched ∙ has-filter (λ k. not (is_clean sc.plan p k)) s.head.nodes j low ∙ ap (λ (q : ℕ). not (is_clean sc.plan q j)) (sym period) in
      let member : has_id f.members j ≡ has_id s.head.members j = ap (λ (xs : List ℕ). has_id xs j) h.members in
      rw (class, touched, member, h.charged j low, h.left j, h.joined j) refl

  each_is : (j : ℕ) → j < sc.config.nodes → sign_by f j ≡ seen_of sc j p
  each_is j low = sign_is j (subst (λ (k : ℕ). j < k) (sym h.in_use) low) ∙ seen_is j

  class_seen : (j : ℕ) → class_at s.head.classes j ≡ (seen_of sc j p).class
  class_seen j = ap (λ (x : Sign). x.class) (seen_is j)

  pub found_all : AreFound (seen_of sc) sc.config.nodes p f
  found_all = record {
    period = h.period;
    nodes = h.nodes ∙ h.in_use;
    each = each_is;
    sound = λ j low. ap (λ (xs : List ℕ). has_id xs j) h.sound ∙ has-filter (λ k. is_sound (class_at s.head.classes k)) s.head.nodes j (subst (λ (k : ℕ). j < k) (sym h.in_use) low)
        ∙ ap is_sound (class_seen j);
    faulty = λ j low. ap (λ (xs : List ℕ). has_id xs j) h.faulty ∙ has-filter (λ k. not (is_nonfaulty (class_at s.head.classes k))) s.head.nodes j (subst (λ (k : ℕ). j < k) (sym h.in_use) low)
        ∙ ap (λ (c : Class). not (is_nonfaulty c)) (class_seen j);
  }
