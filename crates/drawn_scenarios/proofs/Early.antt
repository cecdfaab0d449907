-- No rule refuses the cluster that faults are drawn onto.
use Rattle.std.proofs.Common.{◌≡◌, ℕ, zero, suc, ◌+◌, ◌/◌, ◌^◌, ◌<◌, ◌≤◌, ◌⊎◌, inl, inr, Bool, true, false, cond, ◌||◌, List, [], ◌∷◌, map, length, min, replicate, Option, None, Some, pos, refl, ap, ap₂, arith}
use Rattle.std.specs.Prelude.{nat_lt, is_some, unwrap_or, if◌then◌else◌}
use Rattle.std.specs.Option.{option_or}
use Rattle.std.proofs.lemmas.Bool.{cases_Bool, and_from, or_parts, ltb-false, lt-ltb}
use Rattle.node_grid.specs.NodeSet.{ids_below}
use Rattle.node_grid.specs.TruthFacts.{not_some}
use Rattle.scenario.specs.Parts.{TaskParts, LieParts}
use Rattle.scenario.specs.Numbers.{is_between, are_all_below, listed, has_number}
use Rattle.scenario.specs.Rules.{first_bad, at_place, has_nodes, has_rounds, is_policy, is_plain, is_of_version, fits_channel, closes, fits_task, is_clock, is_drift, sizes_refusal, lengths_refusal, numbers_refusal, channels_refusal, tasks_refusal, cycles_refusal, early_refusal}
use Rattle.drawn_scenarios.specs.declared.choices.ClockChoices.{ClockChoices}
use Rattle.drawn_scenarios.specs.declared.choices.Choices.{Choices}
use Rattle.drawn_scenarios.specs.declared.bout.Bout.{Bout}
use Rattle.drawn_scenarios.specs.Choices.{AreClockChoices, AreChoices}
use Rattle.drawn_scenarios.specs.declared.series.Series.TheVariants.{Drifts}
use Rattle.drawn_scenarios.specs.Series.{row}
use Rattle.drawn_scenarios.specs.Cluster.{version_of, policy, sensor_of, copies_of, copy_count, task_of, clock_of}
use Rattle.drawn_scenarios.specs.Drawn.{parts_of}
use Rattle.drawn_scenarios.proofs.Picked.{every_filter, all_range, rising, all_low, up_range}
use Rattle.drawn_scenarios.proofs.Rows.{between, readings_are, readings_close, results_are, results_close, starts_are, drifts_are, drifts_close, errors_are}

-- ---- the version

-- version 1 has few nodes and rounds, no copies and no clock
pub record IsFirst (c : Choices) : Type 0 where
  pub version : version_of c ≡ 1
  pub nodes : c.nodes ≤ 8
  pub rounds : c.m ≤ 2
  pub copies : c.copies ≡ false
  pub clock : is_some c.clock ≡ false

pub versions : (c : Choices) → IsFirst c ⊎ (version_of c ≡ 2)
versions c = elim (cases_Bool (nat_lt 8 c.nodes || (nat_lt 2 c.m || (c.copies || is_some c.clock)))) [
  | inl second ↦ inr (rw second refl)
  | inr first ↦
      let a = or_parts (nat_lt 8 c.nodes) _ first in
      let b = or_parts (nat_lt 2 c.m) _ a.1 in
      let d = or_parts c.copies _ b.1 in
      inl (record { version = rw first refl; nodes = ltb-false _ _ a.0; rounds = ltb-false _ _ b.0; copies = d.0; clock = d.1 })
]

-- ---- one channel, or two

one_stands : {X : Type 0} (t : ℕ → X → Bool) (x : X) → t 0 x ≡ true → first_bad t 0 (x ∷ []) ≡ None
one_stands t x a = rw a refl

two_stand : {X : Type 0} (t : ℕ → X → Bool) (x y : X) → t 0 x ≡ true → t 1 y ≡ true → first_bad t 0 (x ∷ y ∷ []) ≡ None
two_stand t x y a b = rw (a, b) refl

-- ---- a task on the first k nodes

abbrev task_on : ℕ → TaskParts
task_on k = record { after = []; nodes = map pos (ids_below k); need = pos (k / 2 + 1); min = pos 1; max = pos 1; run = replicate k (pos 1) }

low_nodes : (n k : ℕ) → k ≤ n → are_all_below n (map pos (ids_below k)) ≡ true
low_nodes n k few = and_from _ _ (rising (ids_below k) (up_range 0 k)) (all_low n (ids_below k) (all_range (λ y. y < n) 0 k (λ i l u. omega arith)))

task_stands : (n k : ℕ) → 3 ≤ k → k ≤ 5 → k ≤ n → fits_task n 1 0 (task_on k) ≡ true
task_stands n zero l h few = absurd (omega arith)
task_stands n (suc zero) l h few = absurd (omega arith)
task_stands n (suc (suc zero)) l h few = absurd (omega arith)
task_stands n (suc (suc (suc zero))) l h few = and_from _ _ refl (and_from _ _ (and_from _ _ (and_from _ _ refl (low_nodes n 3 few)) refl) refl)
task_stands n (suc (suc (suc (suc zero)))) l h few = and_from _ _ refl (and_from _ _ (and_from _ _ (and_from _ _ refl (low_nodes n 4 few)) refl) refl)
task_stands n (suc (suc (suc (suc (suc zero))))) l h few = and_from _ _ refl (and_from _ _ (and_from _ _ (and_from _ _ refl (low_nodes n 5 few)) refl) refl)
task_stands n (suc (suc (suc (suc (suc (suc k)))))) l h few = absurd (omega arith)

module _ (c : Choices) (bs : List Bout) (a : AreChoices c) where
  plain : IsFirst c → is_plain (parts_of c bs) ≡ true
  plain f = let none = not_some c.clock f.clock in rw (f.copies, none) refl

  of_version : is_of_version (parts_of c bs) ≡ true
  of_version = elim (versions c) [
    | inl f ↦ let p = plain f in let v = f.version in rw v p
    | inr v ↦ rw v refl
  ]

  -- ---- the numbers

  version_stands : is_between (pos 1) (pos 2) (pos (version_of c)) ≡ true
  version_stands = elim (versions c) [ inl f ↦ rw f.version refl | inr v ↦ rw v refl ]

  nodes_stand : (capacity : ℕ) → c.nodes ≤ capacity → has_nodes capacity (parts_of c bs) ≡ true
  nodes_stand capacity room = elim (versions c) [
    | inl f ↦ rw f.version (between 3 (min capacity 8) c.nodes a.some_nodes (let n = f.nodes in omega arith))
    | inr v ↦ rw v (between 3 (min capacity 16) c.nodes a.some_nodes (let n = a.few_nodes in omega arith))
  ]

  rounds_stand : has_rounds (parts_of c bs) ≡ true
  rounds_stand = elim (versions c) [
    | inl f ↦ rw f.version (and_from _ _ (between 0 2 c.m (omega arith) f.rounds) (lt-ltb c.m c.nodes a.rounds))
    | inr v ↦ rw v (and_from _ _ (between 0 3 c.m (omega arith) a.few_rounds) (lt-ltb c.m c.nodes a.rounds))
  ]

  sizes_stand : (capacity : ℕ) → c.nodes ≤ capacity → sizes_refusal capacity (parts_of c bs) ≡ None
  sizes_stand capacity room = rw (of_version, version_stands, nodes_stand capacity room, rounds_stand) refl

  frame_stands : (b : Bool) → is_between (pos 1) (pos 1024) (unwrap_or (cond b (Some (pos 1)) None) (pos c.periods)) ≡ true
  frame_stands true = refl
  frame_stands false = between 1 1024 c.periods a.some_periods a.few_periods

  lengths_stand : lengths_refusal (parts_of c bs) ≡ None
  lengths_stand = rw (between 1 1024 c.periods a.some_periods a.few_periods, frame_stands c.copies, lt-ltb 0 c.nodes (let n = a.some_nodes in omega arith)) refl

  policy_stands : is_policy (version_of c) (policy c) ≡ true
  policy_stands = elim (versions c) [ inl f ↦ rw f.version refl | inr v ↦ rw v refl ]

  numbers_stand : (capacity : ℕ) → c.nodes ≤ capacity → numbers_refusal capacity (parts_of c bs) ≡ None
  numbers_stand capacity room = rw (sizes_stand capacity room, lengths_stand, policy_stands) refl

  -- ---- channels

  sensor_fits : (tasks : ℕ) → fits_channel c.nodes tasks 0 (sensor_of c) ≡ true
  sensor_fits tasks =
      and_from _ _ refl (and_from _ _ refl (and_from _ _ refl
      (and_from _ _ (readings_are c.nodes 0) (and_from _ _ (readings_are c.nodes 1) (and_from _ _ (readings_are c.nodes 2) refl)))))

  sensor_closes : (tasks : List TaskParts) → closes c.nodes tasks 0 (sensor_of c) ≡ true
  sensor_closes tasks = and_from _ _ (readings_close c.nodes 0) (and_from _ _ (readings_close c.nodes 1) (and_from _ _ (readings_close c.nodes 2) refl))

  copies_fit : fits_channel c.nodes 1 1 (copies_of c) ≡ true
  copies_fit = and_from _ _ refl (and_from _ _ refl (and_from _ _ refl (and_from _ _ (results_are c.nodes 0) refl)))

  copies_close : closes c.nodes (task_of c ∷ []) 1 (copies_of c) ≡ true
  copies_close =
      and_from _ _ (results_close c.nodes 0 (listed c.nodes (map pos (ids_below (copy_count c))))
      (every_filter (λ j. j < c.nodes) (has_number (map pos (ids_below (copy_count c)))) (ids_below c.nodes) (all_range (λ j. j < c.nodes) 0 c.nodes (λ k l u. omega arith)))) refl

  -- with copies, or without
  abbrev refused_by : Bool → Option (ℕ × ℕ)
  refused_by b =
      option_or (at_place 6 (first_bad (fits_channel c.nodes (length (if b then task_of c ∷ [] else []))) 0 (sensor_of c ∷ (if b then copies_of c ∷ [] else []))))
      (at_place 7 (first_bad (closes c.nodes (if b then task_of c ∷ [] else [])) 0 (sensor_of c ∷ (if b then copies_of c ∷ [] else []))))

  channels_with : (b : Bool) → refused_by b ≡ None
  channels_with true =
      ap₂ option_or (ap (at_place 6) (two_stand (fits_channel c.nodes 1) (sensor_of c) (copies_of c) (sensor_fits 1) copies_fit))
      (ap (at_place 7) (two_stand (closes c.nodes (task_of c ∷ [])) (sensor_of c) (copies_of c) (sensor_closes (task_of c ∷ [])) copies_close))
  channels_with false = ap₂ option_or (ap (at_place 6) (one_stands (fits_channel c.nodes 0) (sensor_of c) (sensor_fits 0))) (ap (at_place 7) (one_stands (closes c.nodes []) (sensor_of c) (sensor_closes [])))

  channels_stand : channels_refusal (parts_of c bs) ≡ None
  channels_stand = channels_with c.copies

  -- ---- the task

  tasks_with : (b : Bool) → c.copies ≡ b → tasks_refusal (parts_of c bs) ≡ None
  tasks_with true e = rw (e, task_stands c.nodes (copy_count c) (let n = a.some_nodes in omega arith) (omega arith) (omega arith)) refl
  tasks_with false e = rw e refl

  pub not_early : (capacity : ℕ) → c.nodes ≤ capacity → early_refusal capacity (parts_of c bs) ≡ None
  not_early capacity room = rw (numbers_stand capacity room, channels_stand, tasks_with c.copies refl) refl

  cycles_with : (b : Bool) → c.copies ≡ b → cycles_refusal (parts_of c bs) ≡ None
  cycles_with true e = rw e refl
  cycles_with false e = rw e refl

  pub no_cycles : cycles_refusal (parts_of c bs) ≡ None
  no_cycles = cycles_with c.copies refl

-- ---- clocks

pub clock_stands : (n : ℕ) (k : ClockChoices) (lies : List LieParts) → AreClockChoices k → is_clock n (clock_of n lies k) ≡ true
clock_stands n k lies a =
    and_from _ _ (and_from _ _ (and_from _ _ (and_from _ _ (between 0 (2 ^ 20) k.epsilon (omega arith) a.epsilon) (between 0 (2 ^ 20) k.drift (omega arith) a.drift)) (starts_are n 0 k.start a.start))
    (and_from _ _ refl (and_from _ _ (drift_row 0) (and_from _ _ (drift_row 1) (and_from _ _ (drift_row 2) refl)))))
    (and_from _ _ refl (and_from _ _ (errors_are n 0 k.epsilon) (and_from _ _ (errors_are n 1 k.epsilon) (and_from _ _ (errors_are n 2 k.epsilon) refl))))
  where
    drift_row : (r : ℕ) → is_drift n (pos k.drift) (row (Drifts k.drift) n r) ≡ true
    drift_row r = and_from _ _ (drifts_are n r k.drift a.drift) (drifts_close n r k.drift)
