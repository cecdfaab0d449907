-- What arrives at a node from each sender, whatever their order.
use Rattle.std.proofs.Common.{ℕ, zero, suc, ◌≡◌, ◌≢◌, ◌<◌, ◌≤◌, ◌+◌, ◌-◌, ◌==◌, ◌⊎◌, Bool, true, false, if◌then◌else◌, List, [], ◌∷◌, ◌++◌, map, filter, refl, sym, ap, ap₂, ◌∙◌, inl, inr, arith, eq-eqb, ne_eqb}
use Rattle.std.proofs.lemmas.Bool.{cases_eq, cases_lt, cond-true, cond-false}
use Rattle.std.proofs.lemmas.List.{map-append, append-nil}
use Rattle.std.proofs.lemmas.List.Elements.{filter-append}
use Rattle.std.proofs.lemmas.List.Concat.{flat_map-append}
use Rattle.std.specs.List.{range_with_len, flat_map}
use Rattle.error_detect.specs.Finding.{Delivery}
use Rattle.error_detect.specs.Multiset.{Arriving, from_sender}
use Rattle.fault_classes.specs.Line.{effect_at}
use Rattle.fault_classes.specs.Plan.{Plan}
use Rattle.fault_link.specs.Arrival.{delivered_of}
use Rattle.cluster_periods.specs.Slots.{arriving, from_node, arrivals}

from_append : (j : ℕ) (xs ys : List Arriving) → from_sender j (xs ++ ys) ≡ from_sender j xs ++ from_sender j ys
from_append j xs ys =
    ap (map (λ (d : Arriving). (d.tick, d.bytes))) (filter-append (λ (d : Arriving). d.from == j) xs ys)
    ∙ map-append (λ (d : Arriving). (d.tick, d.bytes)) (filter (λ (d : Arriving). d.from == j) xs) (filter (λ (d : Arriving). d.from == j) ys)

from_same : (j : ℕ) (ds : List Delivery) → from_sender j (map (arriving j) ds) ≡ ds
from_same j [] = refl
from_same j (d ∷ ds) =
    ap (map (λ (x : Arriving). (x.tick, x.bytes))) (cond-true (j == j) _ _ (eq-eqb j j refl)) ∙ ap (λ (xs : List Delivery). d ∷ xs) (from_same j ds)

from_other : (j k : ℕ) (ds : List Delivery) → k ≢ j → from_sender j (map (arriving k) ds) ≡ []
from_other j k [] ne = refl
from_other j k (d ∷ ds) ne =
    ap (map (λ (x : Arriving). (x.tick, x.bytes))) (cond-false (k == j) _ _ (ne_eqb k j ne)) ∙ from_other j k ds ne

module _ (plan : Plan) (p t : ℕ) (frame : ℕ → List ℕ) (i j : ℕ) where
  abbrev F : ℕ → List Arriving
  F = from_node plan p t frame i

  abbrev D : List Delivery
  D = delivered_of (effect_at plan.lines p t j i) (frame j)

  hit : j ≢ i → from_sender j (F j) ≡ D
  hit ne = ap (from_sender j) (cond-false (j == i) [] (map (arriving j) D) (ne_eqb j i ne)) ∙ from_same j D

  miss : (k : ℕ) → k ≢ j → from_sender j (F k) ≡ []
  miss k ne = go (k == i) where
    go : (b : Bool) → from_sender j (if b then [] else map (arriving k) (delivered_of (effect_at plan.lines p t k i) (frame k))) ≡ []
    go true = refl
    go false = from_other j k (delivered_of (effect_at plan.lines p t k i) (frame k)) ne

  none_in : (n a : ℕ) → (j < a) ⊎ (a + n ≤ j) → from_sender j (flat_map F (range_with_len a n)) ≡ []
  none_in zero a off = refl
  none_in (suc n) a off =
      from_append j (F a) (flat_map F (range_with_len (a + 1) n))
      ∙ ap₂ ◌++◌ (miss a (λ e. elim off [ inl l ↦ omega arith | inr l ↦ omega arith ])) (none_in n (a + 1) (elim off [ inl l ↦ inl (omega arith) | inr l ↦ inr (omega arith) ]))

  once_in : (n a : ℕ) → j ≢ i → a ≤ j → j < a + n → from_sender j (flat_map F (range_with_len a n)) ≡ D
  once_in zero a ne low high = absurd (omega arith)
  once_in (suc n) a ne low high =
      from_append j (F a) (flat_map F (range_with_len (a + 1) n)) ∙ elim (cases_eq a j) [
        | inl e ↦ ap₂ ◌++◌ (ap (λ (k : ℕ). from_sender j (F k)) e ∙ hit ne) (none_in n (a + 1) (inl (omega arith))) ∙ append-nil D
        | inr off ↦ ap₂ ◌++◌ (miss a off) (once_in n (a + 1) ne (omega arith) (omega arith))
      ]

  -- what comes from each sender is what arrives of its frame
  pub from_each : (order nodes : ℕ) → order ≤ nodes → j < nodes → j ≢ i → from_sender j (arrivals plan order nodes p t frame i) ≡ D
  from_each order nodes within low ne =
      ap (from_sender j) (flat_map-append F (range_with_len order (nodes - order)) (range_with_len 0 order))
      ∙ from_append j (flat_map F (range_with_len order (nodes - order))) (flat_map F (range_with_len 0 order)) ∙ elim (cases_lt j order) [
        | inl early ↦ ap₂ ◌++◌ (none_in (nodes - order) order (inl early)) (once_in order 0 ne (omega arith) (omega arith))
        | inr late ↦ ap₂ ◌++◌ (once_in (nodes - order) order ne late (omega arith)) (none_in order 0 (inr (omega arith))) ∙ append-nil D
      ]

-- they depend on the frames of the senders alone
pub arrivals_alike : (plan : Plan) (order nodes p t : ℕ) (f g : ℕ → List ℕ) (i : ℕ) → order ≤ nodes → ((j : ℕ) → j < nodes → f j ≡ g j) → arrivals plan order nodes p t f i ≡ arrivals plan order nodes p t g i
arrivals_alike plan order nodes p t f g i within same =
    flat_map-append (from_node plan p t f i) (range_with_len order (nodes - order)) (range_with_len 0 order)
    ∙ ap₂ ◌++◌ (alike (nodes - order) order (omega arith)) (alike order 0 (omega arith))
    ∙ sym (flat_map-append (from_node plan p t g i) (range_with_len order (nodes - order)) (range_with_len 0 order))
  where
    alike : (n a : ℕ) → a + n ≤ nodes → flat_map (from_node plan p t f i) (range_with_len a n) ≡ flat_map (from_node plan p t g i) (range_with_len a n)
    alike zero a l = refl
    alike (suc n) a l = ap₂ ◌++◌ (ap (λ (y : List ℕ). if a == i then [] else map (arriving a) (delivered_of (effect_at plan.lines p t a i) y)) (same a (omega arith))) (alike n (a + 1) (omega arith))
