-- The order of a slot's deliveries changes nothing.
use Rattle.std.proofs.Common.{ℕ, zero, suc, ◌≡◌, ◌≢◌, ◌<◌, ◌≤◌, ◌+◌, ◌*◌, ◌==◌, Bool, List, [], ◌∷◌, refl, sym, ap, subst, ◌∙◌, arith, ne_eqb}
use Rattle.std.specs.Prelude.{IsPermutation}
use Rattle.std.proofs.lemmas.Bool.{cond-false}
use Rattle.frames.specs.Content.{Expectation}
use Rattle.error_detect.specs.Watching.{Watch, opened}
use Rattle.error_detect.specs.Multiset.{Arriving, all_delivered, OrderIsFree as WatchOrderIsFree}
use Rattle.agreed_state.specs.declared.config.Config.{Config}
use Rattle.agreed_state.specs.declared.config.Inputs.{Inputs}
use Rattle.node_steps.specs.Facts.{same_fixed}
use Rattle.node_steps.specs.Parts.{NodeView}
use Rattle.node_steps.specs.Steps.{given_frame, after_slot, slot_taken, shut, begun}
use Rattle.node_steps.specs.Period.{slot_run, slots_run}
use Rattle.node_steps.specs.Sending.{Fixed, fixed}
use Rattle.node_steps.specs.Living.{restarted_if, periods_run}
use Rattle.node_steps.specs.Order.{all_given, OrderIsFree}
use Rattle.node_steps.specs.FixedLaws.{Place, slot_place, slots_fixed}
use Rattle.node_steps.proofs.Turns.{IsAt, turned}

-- only what arrived changes
given_is : {N : ℕ} (v : NodeView N) (ds : List Arriving) → all_given v ds ≡ record v { arrived = all_delivered v.arrived ds }
given_is v [] = refl
given_is v (d ∷ ds) = given_is (given_frame v d.from d.tick d.bytes) ds

-- a node whose open slot has brought nothing yet
record HasOpened {N : ℕ} (v : NodeView N) : Type 0 where
  pub watch : Watch
  pub expect : Expectation
  pub is : v.arrived ≡ opened watch expect

-- the end of a slot before the last one opens the next
opens_next : {N : ℕ} (v : NodeView N) (t : ℕ) → v.phase.slot ≡ t → t ≢ 2 * v.config.m + 3 → HasOpened (after_slot v)
opens_next {N} v t at ne =
    let place = slot_place v in
    let w : NodeView N = slot_taken (shut v) in
    let slot : w.phase.slot ≡ t = ap (λ (p : Place N). p.slot) place ∙ at in
    let rounds : w.config.m ≡ v.config.m = ap (λ (p : Place N). p.lasts.of_node.config.m) place in
    subst (HasOpened {N = N}) (sym (cond-false (w.phase.slot == 2 * w.config.m + 3) _ _ (ne_eqb w.phase.slot (2 * w.config.m + 3) (λ e. ne (omega arith))))) (record { watch = w.arrived; expect = _; is = refl })

record Stands {N : ℕ} (config : Config N) (me t : ℕ) (v : NodeView N) : Type 0 where
  pub at : IsAt config me t v
  pub has : HasOpened v

-- where a node stands after so many slots of a period
stands : {N : ℕ} (v : NodeView N) (p : ℕ) (g : Inputs) (ds : ℕ → List Arriving) (t : ℕ) → t < 2 * v.config.m + 4 → Stands v.config v.phase.me t (slots_run ds t (begun v p g))
stands v p g ds zero low = record {
  at = record { config = refl; me = refl; slot = λ l. refl; open_still = λ l. refl; over = λ e. absurd (omega arith) };
  has = record { watch = v.arrived; expect = _; is = refl };
}
stands {N} v p g ds (suc t) low =
    let u : NodeView N = slots_run ds t (begun v p g) in
    let u' : NodeView N = record u { arrived = all_delivered u.arrived (ds t) } in
    let before : IsAt v.config v.phase.me t u = (stands v p g ds t (omega arith)).at in
    let here : IsAt v.config v.phase.me t u' = record { config = before.config; me = before.me; slot = before.slot; open_still = before.open_still; over = before.over } in
    let rounds : u'.config.m ≡ v.config.m = ap (λ (c : Config N). c.m) before.config in
    record {
      at = subst (λ (n : ℕ). IsAt v.config v.phase.me n (after_slot u')) (let e : t + 1 ≡ suc t = omega arith in e) (turned v.config v.phase.me t u' (omega arith) here);
      has = opens_next u' t (before.slot (omega arith)) (λ e. absurd (omega arith));
    }

fixed_periods : {N : ℕ} (slots : ℕ) (restarts : ℕ → Bool) (inputs : ℕ → Inputs) (ds : ℕ → ℕ → List Arriving) (n : ℕ) (v : NodeView N) → fixed (periods_run slots restarts inputs ds n v) ≡ fixed v
unfolding periods_run
fixed_periods slots restarts inputs ds zero v = refl
fixed_periods {N} slots restarts inputs ds (suc n) v =
    let w : NodeView N = periods_run slots restarts inputs ds n v in
    slots_fixed (ds n) slots (begun (restarted_if (restarts n) w) n (inputs n)) ∙ same_fixed (restarts n) w ∙ fixed_periods slots restarts inputs ds n v

module _ (law : WatchOrderIsFree) where
  same_watch : (a w : Watch) (e : Expectation) (ds es : List Arriving) → a ≡ opened w e → IsPermutation ds es → all_delivered a ds ≡ all_delivered a es
  same_watch a w e ds es is h = ap (λ (b : Watch). all_delivered b ds) is ∙ law w e ds es h ∙ sym (ap (λ (b : Watch). all_delivered b es) is)

  one_slot : {N : ℕ} (v : NodeView N) (ds es : List Arriving) → HasOpened v → IsPermutation ds es → slot_run v ds ≡ slot_run v es
  one_slot v ds es o h = ap (λ (a : Watch). after_slot (record v { arrived = a })) (same_watch v.arrived o.watch o.expect ds es o.is h)

  one_period : {N : ℕ} (v : NodeView N) (p : ℕ) (g : Inputs) (ds es : ℕ → List Arriving) (t : ℕ) → t ≤ 2 * v.config.m + 4 → ((s : ℕ) → s < t → IsPermutation (ds s) (es s)) → slots_run ds t (begun v p g) ≡ slots_run es t (begun v p g)
  one_period v p g ds es zero low h = refl
  one_period {N} v p g ds es (suc t) low h =
      ap (λ (u : NodeView N). slot_run u (ds t)) (one_period v p g ds es t (omega arith) (λ s l. h s (omega arith)))
      ∙ one_slot (slots_run es t (begun v p g)) (ds t) (es t) (stands v p g es t (omega arith)).has (h t (omega arith))

  some_periods : {N : ℕ} (v : NodeView N) (restarts : ℕ → Bool) (inputs : ℕ → Inputs) (ds es : ℕ → ℕ → List Arriving) (n : ℕ) → ((p s : ℕ) → p < n → s < 2 * v.config.m + 4 → IsPermutation (ds p s) (es p s))
      → periods_run (2 * v.config.m + 4) restarts inputs ds n v ≡ periods_run (2 * v.config.m + 4) restarts inputs es n v
  unfolding periods_run
  some_periods v restarts inputs ds es zero h = refl
  some_periods {N} v restarts inputs ds es (suc n) h =
      let slots : ℕ = 2 * v.config.m + 4 in
      let w : NodeView N = periods_run slots restarts inputs es n v in
      let u : NodeView N = restarted_if (restarts n) w in
      let rounds : u.config.m ≡ v.config.m = ap (λ (f : Fixed N). f.config.m) (same_fixed (restarts n) w ∙ fixed_periods slots restarts inputs es n v) in
      ap (λ (x : NodeView N). slots_run (ds n) slots (begun (restarted_if (restarts n) x) n (inputs n))) (some_periods v restarts inputs ds es n (λ p s l m. h p s (omega arith) m))
      ∙ one_period u n (inputs n) (ds n) (es n) slots (omega arith) (λ s l. h n s (omega arith) l)

  pub order_is_free : OrderIsFree
  order_is_free = record {
    slot = λ N v w e ds es is h. given_is v ds ∙ ap (λ (a : Watch). record v { arrived = a }) (same_watch v.arrived w e ds es is h) ∙ sym (given_is v es);
    period = λ N v p g ds es t low h. one_period v p g ds es t low h;
    life = λ N v restarts inputs ds es n h. some_periods v restarts inputs ds es n h;
  }
