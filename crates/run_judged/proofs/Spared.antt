-- In a claimed period nobody is charged, or leaves, that was nonfaulty in all periods up to it.
use Rattle.std.proofs.Common.{◌≡◌, ℕ, zero, suc, ◌+◌, ◌<◌, ◌≤◌, Bool, true, false, not, ◌&&◌, ◌||◌, List, [], ◌∷◌, Option, None, Some, refl, sym, ap, ◌∙◌, arith}
use Rattle.std.specs.Prelude.{◌==◌}
use Rattle.std.specs.List.{list_any, range_with_len}
use Rattle.std.proofs.Math.Bool.{and-false}
use Rattle.node_grid.specs.Class.{is_nonfaulty, is_sound}
use Rattle.node_grid.specs.NodeSet.{ids_below, has_id}
use Rattle.node_grid.specs.NodeSetLaws.{has-range}
use Rattle.node_grid.specs.ListLaws.{all_at}
use Rattle.node_grid.specs.MaskLaws.{mask-none}
use Rattle.node_grid.specs.Count.{bit, count}
use Rattle.node_grid.specs.TruthFacts.{is_n}
use Rattle.error_reports.specs.Charge.{charged, charged_mask, kind_room}
use Rattle.agreed_state.specs.Agreed.{AgreedView}
use Rattle.protocol.specs.Run.{members_in}
use Rattle.protocol.specs.Cluster.{view}
use Rattle.protocol.specs.Safe.{IsContinuous, Unpunished, Safe, reference}
use Rattle.node_steps.specs.Outcome.{Outcome}
use Rattle.node_steps.specs.Stages.{outcome_of}
use Rattle.scenario.specs.Scenario.{ScenarioView}
use Rattle.cluster_periods.specs.Laws.{run_of, classes_of, SafeLaw}
use Rattle.run_judged.specs.Signs.{outcome_among, is_charged_by, members_of, members_by, is_left}
use Rattle.run_judged.specs.Rows.{period_of, seen_of, is_spotless}
use Rattle.run_judged.specs.Laws.{SparesAll, SparedLaw}
use Rattle.run_judged.proofs.Shown.{class_is, outcome_is, found_below}

none_any : (f : ℕ → Bool) (xs : List ℕ) → ((k : ℕ) → f k ≡ false) → list_any f xs ≡ false
none_any f [] h = refl
none_any f (x ∷ xs) h = ap (λ (b : Bool). b || list_any f xs) (h x) ∙ none_any f xs h

count_none : (f : ℕ → Bool) (a n : ℕ) → ((k : ℕ) → k < a + n → f k ≡ false) → count f (range_with_len a n) ≡ 0
count_none f a zero h = refl
count_none f a (suc n) h =
    let here : bit (f a) ≡ 0 = ap bit (h a (omega arith)) in
    let rest = count_none f (a + 1) n (λ k l. h k (omega arith)) in
    omega arith

module _ {capacity : ℕ} (sc : ScenarioView capacity) (fits : sc.config.nodes ≤ capacity) where
  seen_class : (p j : ℕ) → j < sc.config.nodes → (seen_of sc j p).class ≡ classes_of sc p j
  unfolding seen_of
  seen_class p j low = class_is sc p j fits low

  -- what is seen of a node by what the reference node made of the period
  seen_charged : (p j : ℕ) (ref : Option ℕ) → reference (run_of sc) (classes_of sc) p ≡ ref → (seen_of sc j p).charged ≡ is_charged_by (outcome_among (period_of sc p).records ref) j
  unfolding seen_of
  seen_charged p j ref e = ap (λ (r : Option ℕ). is_charged_by (outcome_among (period_of sc p).records r) j) e

  seen_left : (p j : ℕ) (ref : Option ℕ) → reference (run_of sc) (classes_of sc) p ≡ ref
      → (seen_of sc j p).left ≡ is_left (period_of sc p).members (members_by (outcome_among (period_of sc p).records ref)) j
  unfolding seen_of
  seen_left p j ref e = ap (λ (r : Option ℕ). is_left (period_of sc p).members (members_by (outcome_among (period_of sc p).records r)) j) e

  continuous : (p j : ℕ) → j < sc.config.nodes → is_spotless (seen_of sc) (suc p) j ≡ true → IsContinuous (classes_of sc) j p
  continuous p j low spotless q upto =
      is_n (classes_of sc q j)
      (ap is_nonfaulty (sym (seen_class q j low)) ∙ all_at (λ k. is_nonfaulty (seen_of sc j k).class) (ids_below (suc p)) q spotless (has-range 0 (suc p) q (omega arith) (omega arith)))

  -- nobody that is innocent is charged or leaves
  not_charged : (p r j : ℕ) (safe : Safe (run_of sc) (classes_of sc) p) → is_sound (classes_of sc p r) ≡ true → Unpunished (run_of sc) p r j safe.equal.before.standing safe.equal.after.standing
      → is_charged_by (Some (outcome_of (view (run_of sc) r p))) j ≡ false
  not_charged p r j safe sound spared =
      let w = view (run_of sc) r p in
      let members : members_in w.before ≡ safe.equal.before.standing.members = ap members_in (safe.equal.goes r sound) in
      ap (λ (ms : List ℕ). not (charged_mask w.rows ms j == 0)) members
      ∙ ap not (mask-none (charged w.rows safe.equal.before.standing.members j) kind_room)
      ∙ ap (λ (b : Bool). not (not b)) (none_any (charged w.rows safe.equal.before.standing.members j) (ids_below kind_room) spared.uncharged)

  not_left : (p r j : ℕ) (before : List ℕ) (safe : Safe (run_of sc) (classes_of sc) p) → is_sound (classes_of sc p r) ≡ true → Unpunished (run_of sc) p r j safe.equal.before.standing safe.equal.after.standing
      → is_left before (members_by (Some (outcome_of (view (run_of sc) r p)))) j ≡ false
  not_left p r j before safe sound spared =
      ap (λ (o : Option AgreedView). is_left before (members_of o) j) (safe.equal.ends r sound)
      ∙ ap (λ (b : Bool). has_id before j && not b) spared.is.member
      ∙ and-false (has_id before j)

  -- a node that was nonfaulty throughout
  pub spared : (p j : ℕ) (ref : Option ℕ) → reference (run_of sc) (classes_of sc) p ≡ ref → Safe (run_of sc) (classes_of sc) p → j < sc.config.nodes → is_spotless (seen_of sc) (suc p) j ≡ true
      → ((seen_of sc j p).charged ≡ false) × ((seen_of sc j p).left ≡ false)
  spared p j None e safe low spotless = (seen_charged p j None e, seen_left p j None e)
  spared p j (Some r) e safe low spotless =
      let found = found_below (λ i. is_nonfaulty (classes_of sc p i)) sc.config.nodes r e in
      let sound : is_sound (classes_of sc p r) ≡ true = ap is_sound (is_n (classes_of sc p r) found.0) in
      let innocent = safe.no_false r j sound (continuous p j low spotless) in
      let there = outcome_is sc p r found.1 in (
        seen_charged p j (Some r) e ∙ ap (λ (o : Option Outcome). is_charged_by o j) there ∙ not_charged p r j safe sound innocent,
        seen_left p j (Some r) e ∙ ap (λ (o : Option Outcome). is_left (period_of sc p).members (members_by o) j) there ∙ not_left p r j (period_of sc p).members safe sound innocent,
      )

  both_not : (a b : Bool) → (b ≡ true → a ≡ false) → (a && b) ≡ false
  both_not a true h = ap (λ (x : Bool). x && true) (h refl)
  both_not a false h = and-false a

  pub spares : (p : ℕ) → Safe (run_of sc) (classes_of sc) p → SparesAll sc p
  spares p safe = record {
    charges = count_none (λ j. (seen_of sc j p).charged && is_spotless (seen_of sc) (suc p) j) 0 sc.config.nodes
        (λ j low. both_not (seen_of sc j p).charged (is_spotless (seen_of sc) (suc p) j) (λ s. (spared p j (reference (run_of sc) (classes_of sc) p) refl safe (omega arith) s).0));
    exclusions = count_none (λ j. (seen_of sc j p).left && is_spotless (seen_of sc) (suc p) j) 0 sc.config.nodes
        (λ j low. both_not (seen_of sc j p).left (is_spotless (seen_of sc) (suc p) j) (λ s. (spared p j (reference (run_of sc) (classes_of sc) p) refl safe (omega arith) s).1));
  }

pub spared_law : SafeLaw → SparedLaw
spared_law law capacity sc p is claimed = spares sc is.system.config.few_nodes p (law capacity sc p is claimed)
