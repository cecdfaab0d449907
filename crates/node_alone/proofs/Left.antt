-- The entries of a slot, one after another.
use Rattle.std.proofs.Common.{ℕ, ◌≡◌, zero, suc, ◌<◌, ◌≤◌, ◌+◌, false, List, [], ◌∷◌, map, length, get_or, drop, refl, sym, ap, subst, ◌∙◌, arith}
use Rattle.std.specs.Prelude.{All}
use Rattle.std.proofs.lemmas.List.Elements.{All-head, All-tail}
use Rattle.node_steps.specs.Parts.{NodeView}
use Rattle.node_steps.specs.Steps.{given_frame}
use Rattle.node_alone.specs.Log.{Entry, is_before, arriving, arrivals}
use Rattle.node_alone.specs.Seen.{Ascends}
use Rattle.node_alone.specs.Stepping.{handed, from_slot, IsFromOther, IsReady}
use Rattle.scenario.proofs.Turns.{drop-here}
use Rattle.node_alone.proofs.Ordering.{at_from, from_next, passes, ascends_drop, all_later, later_stay, later_bring, bring_next, skip_next}

pub nothing_left : (es : List Entry) (k : ℕ) → length es ≤ k → drop k es ≡ []
nothing_left [] zero l = refl
nothing_left [] (suc n) l = refl
nothing_left (y ∷ ys) zero l = absurd (omega arith)
nothing_left (y ∷ ys) (suc n) l = nothing_left ys n (omega arith)

-- what is left of one that is of the slot
module _ {N : ℕ} (p t k : ℕ) (es : List Entry) (x : Entry) (low : k < length es) (is : x ≡ get_or es k x) (period : x.period ≡ p) (slot : x.slot ≡ t) where
  pub given_next : (v w : NodeView N) → w ≡ given_frame v x.from x.tick x.bytes → handed w (arrivals (drop (k + 1) es) p t) ≡ handed v (arrivals (drop k es) p t)
  given_next v w e =
      ap (λ (y : NodeView N). handed y (arrivals (drop (k + 1) es) p t)) e
      ∙ ap (handed v) (sym (ap (λ ys. arrivals ys p t) (drop-here es k x low is) ∙ bring_next p t x (drop (k + 1) es) period slot))

pub rest_next : (p t k : ℕ) (es : List Entry) (x : Entry) → k < length es → x ≡ get_or es k x → x.period ≡ p → x.slot ≡ t → from_slot p (t + 1) (drop (k + 1) es) ≡ from_slot p (t + 1) (drop k es)
rest_next p t k es x low is period slot = sym (ap (from_slot p (t + 1)) (drop-here es k x low is) ∙ skip_next p t x (drop (k + 1) es) period slot)

module _ (p t k : ℕ) (es : List Entry) (x : Entry) (low : k < length es) (is : x ≡ get_or es k x) where
  pub later_next : All (λ e. is_before p t e ≡ false) (drop k es) → All (λ e. is_before p t e ≡ false) (drop (k + 1) es)
  later_next h = All-tail (λ e. is_before p t e ≡ false) x (drop (k + 1) es) (subst (All (λ e. is_before p t e ≡ false)) (drop-here es k x low is) h)

  -- where the next isn't of the slot, all that are left are of later ones
  pub left : Ascends es → All (λ e. is_before p t e ≡ false) (drop k es) → (x.period ≡ p → x.slot ≡ t → ⊥) → All (λ e. is_before p (t + 1) e ≡ false) (drop k es)
  left ascends h off =
      let e = drop-here es k x low is in
      let first : is_before p t x ≡ false = All-head (λ y. is_before p t y ≡ false) x (drop (k + 1) es) (subst (All (λ y. is_before p t y ≡ false)) e h) in
      subst (All (λ y. is_before p (t + 1) y ≡ false)) (sym e) (all_later p t x (drop (k + 1) es) (subst Ascends e (ascends_drop k es ascends)) (passes p t x first off))

pub ready_next : {N : ℕ} (v w : NodeView N) (from tick : ℕ) (bytes : List ℕ) (es : List Entry) → w ≡ given_frame v from tick bytes → IsReady v es → IsReady w es
ready_next v w from tick bytes es e r = subst (λ (y : NodeView _). IsReady y es) (sym e) (record { is_open = r.is_open; others = r.others })

-- the entry at k comes from another node
pub other_at : {N : ℕ} (v : NodeView N) (es : List Entry) (k : ℕ) (x : Entry) → k < length es → x ≡ get_or es k x → IsReady v es → IsFromOther v.config.nodes v.phase.me x
other_at v es k x low is r = here es k x low is (λ j d l. r.others j d l) where
  here : (ys : List Entry) (n : ℕ) (y : Entry) → n < length ys → y ≡ get_or ys n y → All (IsFromOther v.config.nodes v.phase.me) ys → IsFromOther v.config.nodes v.phase.me y
  here [] n y l e h = absurd (omega arith)
  here (z ∷ ys) zero y l e h = subst (IsFromOther v.config.nodes v.phase.me) (sym e) (All-head (IsFromOther v.config.nodes v.phase.me) z ys h)
  here (z ∷ ys) (suc n) y l e h = here ys n y (omega arith) e (All-tail (IsFromOther v.config.nodes v.phase.me) z ys h)

-- ---- the end of a slot, where what is left is of later ones

module _ (p t next k : ℕ) (es : List Entry) (start : drop next es ≡ from_slot p t es) (late : All (λ e. is_before p (t + 1) e ≡ false) (drop k es)) where
  pub given_all : {N : ℕ} (v w : NodeView N) → handed w (arrivals (drop k es) p t) ≡ handed v (arrivals (drop next es) p t) → w ≡ handed v (arrivals es p t)
  given_all v w h =
      ap (handed w) (sym (later_bring p t (drop k es) late)) ∙ h
      ∙ ap (λ (ys : List Entry). handed v (arrivals ys p t)) start ∙ ap (λ (ys : List Entry). handed v (map arriving ys)) (at_from p t es)

  pub rest_all : from_slot p (t + 1) (drop k es) ≡ from_slot p (t + 1) (drop next es) → drop k es ≡ from_slot p (t + 1) es
  rest_all h = sym (later_stay p t (drop k es) late) ∙ h ∙ ap (from_slot p (t + 1)) start ∙ from_next p t es
