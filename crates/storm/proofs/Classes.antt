-- Each node that isn't off is of class N.
use Rattle.std.proofs.Common.{◌≡◌, ◌≢◌, ℕ, zero, suc, ◌<◌, Bool, true, false, not, ◌&&◌, ◌||◌, ◌==◌, List, [], ◌∷◌, None, refl, ap, ◌∙◌, inl, inr, arith}
use Rattle.std.specs.List.{list_all, range_with_len}
use Rattle.std.proofs.lemmas.Bool.{cases_Bool, and_from, or_left, or_right, not_from_false, both_ways, false_from_ne_true, lt-ltb, and_parts, not-true, eqb-false}
use Rattle.node_grid.specs.Count.{bit, count}
use Rattle.node_grid.specs.declared.class.Class.TheVariants.{N}
use Rattle.node_grid.specs.SetFacts.{count_none}
use Rattle.node_grid.specs.TruthFacts.{is_n}
use Rattle.fault_classes.specs.Change.{is_untouched, is_manifest}
use Rattle.fault_classes.specs.Line.{effect_at}
use Rattle.fault_classes.specs.Plan.{Plan, nodes_of, slots_of, is_clean, each_in_slot, steady, joins_in, recovers_in, sound_before, class_of}
use Rattle.fault_classes.specs.ClassLaws.{nonfaulty_is}
use Rattle.storm.specs.Storm.{Block}
use Rattle.storm.proofs.Off.{plan_by, is_off}
use Rattle.storm.proofs.Shape.{AreBlocks}
use Rattle.storm.proofs.Offs.{untouched, no_restart, restarts_last, off_high, one_off}

all_pass : {X : Type 0} (f : X → Bool) (xs : List X) → ((x : X) → f x ≡ true) → list_all f xs ≡ true
all_pass f [] h = refl
all_pass f (x ∷ xs) h = and_from _ _ (h x) (all_pass f xs h)

clean_if : (plan : Plan) (p j : ℕ) → ((s i : ℕ) → effect_at plan.lines p s j i ≡ None) → is_clean plan p j ≡ true
clean_if plan p j h = all_pass (each_in_slot plan is_untouched p j) (slots_of plan)
    (λ s. all_pass (λ i. i == j || is_untouched (effect_at plan.lines p s j i)) (nodes_of plan) (λ i. or_right (i == j) _ (ap is_untouched (h s i))))

first_counted : (f : ℕ → Bool) (a n : ℕ) → 0 < n → f a ≡ true → 0 < count f (range_with_len a n)
first_counted f a zero some h = absurd (omega arith)
first_counted f a (suc n) some h = let here : bit (f a) ≡ 1 = ap bit h in omega arith

-- a node recovers where all others are good
recovers_if : (plan : Plan) (p j : ℕ) (good : ℕ → Bool) → 0 < plan.nodes → good 0 ≡ true → ((i : ℕ) → i < plan.nodes → i ≢ j → good i ≡ true) → recovers_in plan p good j ≡ true
recovers_if plan p j good some first h =
    let stray = count_none (λ i. not (i == j) && (not (good i) && not (is_manifest (effect_at plan.lines p 0 i j)))) 0 plan.nodes (λ i l u. false_from_ne_true _ (no i (omega arith))) in
    let goods = first_counted good 0 plan.nodes some first in
    lt-ltb _ _ (omega arith)
  where
    no : (i : ℕ) → i < plan.nodes → (not (i == j) && (not (good i) && not (is_manifest (effect_at plan.lines p 0 i j)))) ≡ true → ⊥
    no i low e =
        let a = and_parts (not (i == j)) _ e in
        let b = and_parts (not (good i)) _ a.1 in
        both_ways _ (not-true _ b.0) (h i low (eqb-false i j (not-true _ a.0)))

module _ (bs : List Block) (are : AreBlocks 0 bs) where
  stays : (p j : ℕ) → j < 8 → is_off bs p j ≡ false → sound_before (plan_by bs) p j ≡ true → steady (plan_by bs) p (sound_before (plan_by bs) p) j ≡ true
  stays p j low not_off before =
      and_from _ _ (lt-ltb j 8 low) (and_from _ _ (not_from_false _ (no_restart bs p j not_off))
      (and_from _ _ (clean_if (plan_by bs) p j (λ s i. untouched 0 bs p p s j i are (omega arith) (omega arith) not_off)) before))

  -- at its restart all other nodes are good, and none of its frames is touched
  recovering : (p j : ℕ) → j < 8 → is_off bs p j ≡ true → is_off bs (suc p) j ≡ false → ((i : ℕ) → i < 8 → is_off bs p i ≡ false → sound_before (plan_by bs) p i ≡ true)
      → joins_in (plan_by bs) p (sound_before (plan_by bs) p) j ≡ true
  recovering p j low off not_next before =
      let good : ℕ → Bool = steady (plan_by bs) p (sound_before (plan_by bs) p) in
      let others : (i : ℕ) → i < 8 → i ≢ j → good i ≡ true = λ i small ne.
      let not_too : is_off bs p i ≡ false = false_from_ne_true _ (λ h. ne (one_off 0 bs p i j are h off)) in
      stays p i small not_too (before i small not_too) in
      let high = off_high 0 bs p j are off in
      and_from _ _ (lt-ltb j 8 low) (and_from _ _ (restarts_last bs p j off not_next)
      (and_from _ _ (clean_if (plan_by bs) p j (λ s i. untouched 0 bs p (suc p) s j i are (omega arith) (omega arith) not_next))
      (recovers_if (plan_by bs) p j good (omega arith) (others 0 (omega arith) (omega (arith, high.0))) others)))

  sound : (p j : ℕ) → j < 8 → is_off bs p j ≡ false → sound_before (plan_by bs) p j ≡ true
  unfolding sound_before
  sound zero j low not_off = refl
  sound (suc p) j low not_off = elim (cases_Bool (is_off bs p j)) [
    | inr not_before ↦ or_left _ _ (stays p j low not_before (sound p j low not_before))
    | inl off ↦ or_right (steady (plan_by bs) p (sound_before (plan_by bs) p) j) _ (recovering p j low off not_off (λ i small not_too. sound p i small not_too))
  ]

  pub nonfaulty : (p j : ℕ) → j < 8 → is_off bs p j ≡ false → class_of (plan_by bs) p j ≡ N
  nonfaulty p j low not_off = is_n _ (nonfaulty_is (plan_by bs) p j low ∙ stays p j low not_off (sound p j low not_off))
