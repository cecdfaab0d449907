-- A node that no line touches and that isn't sound is symmetric: nothing tells its frames apart, and none is manifestly faulty.
use Rattle.std.proofs.Common.{◌≡◌, ◌≢◌, ℕ, ◌<◌, ◌≤◌, true, false, ◌||◌, None, sym, ap, ap₂, inl, inr, arith, eqb-true}
use Rattle.std.specs.Prelude.{◌==◌}
use Rattle.std.proofs.lemmas.Bool.{cases_Bool, or_left, or_right, eqb-false}
use Rattle.node_grid.specs.NodeSetLaws.{not_all_ids}
use Rattle.slot_plan.specs.Slots.{slot_count}
use Rattle.node_grid.specs.NumberFacts.{other_fails}
use Rattle.node_grid.specs.SetFacts.{all_ids}
use Rattle.fault_classes.specs.Change.{is_untouched, is_manifest, same_effect}
use Rattle.fault_classes.specs.ChangeLaws.{untouched_is}
use Rattle.fault_classes.specs.Line.{effect_at}
use Rattle.fault_classes.specs.Plan.{Plan, is_clean, each_in_slot, each_frame, is_symmetric_at, is_symmetric_in}
use Rattle.fault_classes.proofs.Facts.{frame_at}

module _ (plan : Plan) (p j : ℕ) (clean : is_clean plan p j ≡ true) where
  nothing : (s i : ℕ) → s < slot_count plan.rounds → i < plan.nodes → i ≢ j → effect_at plan.lines p s j i ≡ None
  nothing s i hs hi ne = untouched_is _ (frame_at plan is_untouched p s j i clean hs hi ne)

  -- some other node gets an untouched frame in slot 0
  pub clean_benign : (i : ℕ) → i < plan.nodes → i ≢ j → each_frame plan is_manifest p j ≡ false
  clean_benign i hi ne =
      not_all_ids (each_in_slot plan is_manifest p j) (slot_count plan.rounds) 0 (omega arith)
      (not_all_ids (λ k. k == j || is_manifest (effect_at plan.lines p 0 j k)) plan.nodes i hi (other_fails i j _ ne (ap is_manifest (nothing 0 i (omega arith) hi ne))))

  alike : (s i h : ℕ) → s < slot_count plan.rounds → i < plan.nodes → h < plan.nodes
      → (i == j || (h == j || same_effect (effect_at plan.lines p s j i) (effect_at plan.lines p s j h))) ≡ true
  alike s i h hs hi hh = elim (cases_Bool (i == j)) [
    | inl e ↦ or_left (i == j) _ e
    | inr e ↦ or_right (i == j) _ (elim (cases_Bool (h == j)) [
      | inl f ↦ or_left (h == j) _ f
      | inr f ↦ or_right (h == j) _ (ap₂ same_effect (nothing s i hs hi (apart i e)) (nothing s h hs hh (apart h f)))
    ])
  ]
    where
      apart : (k : ℕ) → (k == j) ≡ false → k ≢ j
      apart k e same = eqb-false k j e same

  pub clean_symmetric : is_symmetric_in plan p j ≡ true
  clean_symmetric =
      all_ids (is_symmetric_at plan p j) (slot_count plan.rounds) (λ s hs. all_ids _ plan.nodes (λ i hi. all_ids _ plan.nodes (λ h hh. alike s i h hs hi hh)))

-- the least node but this one
pub some_other : (n j : ℕ) → 2 ≤ n → (i : ℕ) × ((i < n) × (i ≢ j))
some_other n j h = elim (cases_Bool (j == 0)) [
  | inl e ↦ (1, (omega (arith, h), λ same. let zero : j ≡ 0 = eqb-true j 0 e in omega (arith, same, zero)))
  | inr e ↦ (0, (omega (arith, h), λ same. eqb-false j 0 e (sym same)))
]
