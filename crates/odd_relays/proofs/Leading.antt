-- Leaders, which settle what others do.
use Rattle.std.proofs.Common.{ℕ, ◌≡◌, ◌≢◌, ◌<◌, ◌==◌, ◌||◌, true, List, [], ◌∷◌, ◌++◌, set, get_or, length, ◌⊎◌, refl, sym, ap, subst, ◌∙◌, inl, inr, eq-eqb, eqb-true}
use Rattle.std.proofs.lemmas.Bool.{cases_eq, or_cases, or_left, or_right}
use Rattle.std.proofs.lemmas.List.{get_or-set_same, get_or-set_other}
use Rattle.node_grid.specs.NodeSet.{has_id, with_id}
use Rattle.node_grid.specs.NodeSetLaws.{passes_where, has-with_id}
use Rattle.node_grid.specs.ListLaws.{has_push}
use Rattle.odd_relays.specs.Telling.{Telling}
use Rattle.odd_relays.specs.Work.{HearAlike, IsLedBy}

-- a leader is one of those before, or the node that was gone through last
pub leader_within : (leaders ys : List ℕ) (i x : ℕ) → ((j : ℕ) → has_id leaders j ≡ true → has_id ys j ≡ true) → (x ≢ i → has_id leaders x ≡ true) → has_id (ys ++ i ∷ []) x ≡ true
leader_within leaders ys i x within among = elim (cases_eq x i) [
  | inl e ↦ has_push ys i x ∙ or_right (has_id ys x) (i == x) (eq-eqb i x (sym e))
  | inr ne ↦ has_push ys i x ∙ or_left (has_id ys x) (i == x) (within x (among ne))
]

pub leaders_within : (n : ℕ) (leaders more ys : List ℕ) (i x : ℕ) → ((j : ℕ) → has_id leaders j ≡ true → has_id ys j ≡ true) → (x ≢ i → has_id leaders x ≡ true) → more ≡ with_id n leaders x
    → (j : ℕ) → has_id more j ≡ true → has_id (ys ++ i ∷ []) j ≡ true
leaders_within n leaders more ys i x within among is j on = elim (or_cases (j == x) (has_id leaders j) (passes_where (λ k. (k == x) || has_id leaders k) n j (ap (λ (s : List ℕ). has_id s j) (sym is) ∙ on))) [
  | inl here ↦ ap (has_id (ys ++ i ∷ [])) (eqb-true j x here) ∙ leader_within leaders ys i x within among
  | inr was ↦ has_push ys i j ∙ or_left (has_id ys j) (i == j) (within j was)
]

-- who was led is led, and so is the next one
module _ {V : Type 0} (t : Telling V) (n : ℕ) (leaders more : List ℕ) (x : ℕ) (is : more ≡ with_id n leaders x) (low : (j : ℕ) → has_id leaders j ≡ true → j < n) where
  led_still : (i j : ℕ) → IsLedBy t leaders i j → IsLedBy t more i j
  led_still i j led = record { among = ap (λ (s : List ℕ). has_id s j) is ∙ has-with_id n leaders x j (low j led.among) ∙ or_right (j == x) (has_id leaders j) led.among; alike = led.alike }

  pub led_more : (ys was now : List ℕ) (q : ℕ) → ((i : ℕ) → has_id ys i ≡ true → IsLedBy t leaders i (get_or was i 0)) → q < length was → now ≡ set was q x → x < n → (q ≡ x) ⊎ HearAlike t q x
      → (i : ℕ) → has_id (ys ++ q ∷ []) i ≡ true → IsLedBy t more i (get_or now i 0)
  led_more ys was now q before fits puts here alike i on = elim (cases_eq i q) [
    | inl e ↦
        let v : x ≡ get_or now i 0 = sym (ap (λ (xs : List ℕ). get_or xs i 0) puts ∙ ap (λ (k : ℕ). get_or (set was q x) k 0) e ∙ get_or-set_same was q x 0 fits) in
        subst (λ (k : ℕ). IsLedBy t more i k) v
        (subst (λ (k : ℕ). IsLedBy t more k x) (sym e) (record { among = ap (λ (s : List ℕ). has_id s x) is ∙ has-with_id n leaders x x here ∙ or_left (x == x) (has_id leaders x) (eq-eqb x x refl); alike = alike }))
    | inr ne ↦
        let v : get_or was i 0 ≡ get_or now i 0 = sym (ap (λ (xs : List ℕ). get_or xs i 0) puts ∙ get_or-set_other was q i x 0 ne) in
        subst (λ (k : ℕ). IsLedBy t more i k) v
        (elim (or_cases (has_id ys i) (q == i) (sym (has_push ys q i) ∙ on)) [
          | inl was' ↦ led_still i (get_or was i 0) (before i was')
          | inr same ↦ absurd (ne (sym (eqb-true q i same)))
        ])
  ]
