-- Which rule refuses a plan, one rule after the other.
use Rattle.std.proofs.Common.{◌≡◌, ℕ, ◌+◌, ◌<◌, ◌≤◌, true, List, [], ◌∷◌, length, Option, None, Some, refl, sym, ◌∙◌, inl, inr}
use Rattle.std.specs.List.{list_all}
use Rattle.std.proofs.lemmas.Bool.{cases_Bool, lt-ltb, le-ltb, and_from}
use Rattle.fault_classes.specs.declared.error.PlanError.TheVariants.{Range, Overlap, Restart, TooMany}
use Rattle.fault_classes.specs.Line.{Line}
use Rattle.slot_plan.specs.Slots.{slot_count}
use Rattle.fault_classes.specs.Plan.{Plan}
use Rattle.fault_classes.specs.Rules.{is_line, first_bad_line, first_overlap, first_bad_restart, refusal_of}

pub all_good : (nodes slots periods k : ℕ) (xs : List Line) → first_bad_line nodes slots periods k xs ≡ None → list_all (is_line nodes slots periods) xs ≡ true
all_good nodes slots periods k [] h = refl
all_good nodes slots periods k (x ∷ xs) h = elim (cases_Bool (is_line nodes slots periods x)) [
  | inl good ↦ let rest : first_bad_line nodes slots periods (k + 1) xs ≡ None = rw good at h in and_from _ _ good (all_good nodes slots periods (k + 1) xs rest)
  | inr bad ↦ let no_way : Some k ≡ None = rw bad at h in cc
]

module _ (plan : Plan) where
  pub by_range : (k : ℕ) → first_bad_line plan.nodes (slot_count plan.rounds) plan.periods 0 plan.lines ≡ Some k → refusal_of plan ≡ Some (Range k)
  by_range k a = rw a refl

  pub by_overlap : (k : ℕ) → first_bad_line plan.nodes (slot_count plan.rounds) plan.periods 0 plan.lines ≡ None → first_overlap [] plan.lines ≡ Some k → refusal_of plan ≡ Some (Overlap k)
  by_overlap k a b = rw (a, b) refl

  pub by_restart : (k : ℕ) → first_bad_line plan.nodes (slot_count plan.rounds) plan.periods 0 plan.lines ≡ None → first_overlap [] plan.lines ≡ None
      → first_bad_restart plan.nodes plan.periods None 0 plan.restarts ≡ Some k → refusal_of plan ≡ Some (Restart k)
  by_restart k a b d = rw (a, b, d) refl

  pub by_count : first_bad_line plan.nodes (slot_count plan.rounds) plan.periods 0 plan.lines ≡ None → first_overlap [] plan.lines ≡ None
      → first_bad_restart plan.nodes plan.periods None 0 plan.restarts ≡ None → 4096 < length plan.lines → refusal_of plan ≡ Some TooMany
  by_count a b d h = rw (a, b, d, lt-ltb 4096 (length plan.lines) h) refl

  pub by_none : first_bad_line plan.nodes (slot_count plan.rounds) plan.periods 0 plan.lines ≡ None → first_overlap [] plan.lines ≡ None
      → first_bad_restart plan.nodes plan.periods None 0 plan.restarts ≡ None → length plan.lines ≤ 4096 → refusal_of plan ≡ None
  by_none a b d h = rw (a, b, d, le-ltb 4096 (length plan.lines) h) refl

-- the lines of a plan that no rule refuses are in range
pub lines_good : (plan : Plan) → refusal_of plan ≡ None → list_all (is_line plan.nodes (slot_count plan.rounds) plan.periods) plan.lines ≡ true
lines_good plan h = all_good plan.nodes (slot_count plan.rounds) plan.periods 0 plan.lines (go (first_bad_line plan.nodes (slot_count plan.rounds) plan.periods 0 plan.lines) refl)
  where
    go : (o : Option ℕ) → first_bad_line plan.nodes (slot_count plan.rounds) plan.periods 0 plan.lines ≡ o → first_bad_line plan.nodes (slot_count plan.rounds) plan.periods 0 plan.lines ≡ None
    go None e = e
    go (Some k) e = let no_way : Some (Range k) ≡ None = sym (by_range plan k e) ∙ h in cc
