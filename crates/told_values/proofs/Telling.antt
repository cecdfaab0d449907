-- What a node has to which the same channels are due as to all Full nodes, while it is worked out: own values, but where a line touches the frame.
use Rattle.std.proofs.Common.{◌≡◌, ◌≢◌, ◌<◌, ◌≤◌, ◌+◌, ℕ, ℤ, true, List, Option, None, length, length-set, get_or, get_or-set_other, get_or-set_same, set, refl, sym, ap, ◌∙◌, inl, inr, arith}
use Rattle.std.proofs.lemmas.Bool.{cases_eq}
use Rattle.node_grid.specs.NodeSet.{has_id}
use Rattle.protocol.specs.View.{Received, value_from, value_in}
use Rattle.data_slot.specs.Told.{at_channel, value_told}
use Rattle.told_values.specs.Slot.{DataView, own_of, own_told, AreOwnTold, values_at, change_to, Hears}
use Rattle.told_values.proofs.Arriving.{own_from, other_from, other_plain}

-- those of the nodes below k are right, and for the others stand own values
pub record AreToldBelow {n : ℕ} (d : DataView n) (i : ℕ) (own : List (Option (List ℤ))) (k : ℕ) (told : List (Option (List ℤ))) : Type 0 where
  pub wide : length told ≡ n
  pub so_far : (x : Received) → Hears d i x → (q c : ℕ) → q < k → q < d.config.nodes → has_id (d.due i) c ≡ true
      → value_told told q c ≡ value_from i (has_id d.full i) (d.due i) (own_of d i) x c q
  pub rest : (q : ℕ) → k ≤ q → get_or told q None ≡ get_or own q None

module _ {n : ℕ} (d : DataView n) (i : ℕ) (own : List (Option (List ℤ))) (are : AreOwnTold d own) (alike : (j : ℕ) → has_id d.full j ≡ true → d.due j ≡ d.due i) where
  pub told_none : length own ≡ n → AreToldBelow d i own 0 own
  told_none wide = record { wide = wide; so_far = λ x hears q c less. absurd (omega arith); rest = λ q high. refl }

  -- an own value serves where no line touches the frame
  serves : (q c : ℕ) (x : Received) → Hears d i x → q < d.config.nodes → (q ≢ i → change_to d q i ≡ None) → has_id (d.due i) c ≡ true
      → own_told d q c ≡ value_from i (has_id d.full i) (d.due i) (own_of d i) x c q
  serves q c x hears used clean on = elim (cases_eq q i) [
    | inl e ↦ ap (λ (m : ℕ). own_told d m c) e ∙ sym (own_from d i c x) ∙ ap (λ (m : ℕ). value_from i (has_id d.full i) (d.due i) (own_of d i) x c m) (sym e)
    | inr ne ↦ sym (other_plain d i q c x hears used ne (clean ne) (alike q) on)
  ]

  pub told_kept : (k : ℕ) (told : List (Option (List ℤ))) → (k ≢ i → change_to d k i ≡ None) → AreToldBelow d i own k told → AreToldBelow d i own (k + 1) told
  told_kept k told clean was = record {
    wide = was.wide;
    so_far = λ x hears q c less used on. elim (cases_eq q k) [
      | inl e ↦
          ap (λ (o : Option (List ℤ)). at_channel o c) (was.rest q (omega (arith, e)))
          ∙ are q c used (λ full. ap (λ (ds : List ℕ). has_id ds c) (alike q full) ∙ on)
          ∙ serves q c x hears used (λ ne. ap (λ (m : ℕ). change_to d m i) e ∙ clean (λ same. ne (e ∙ same))) on
      | inr ne ↦ was.so_far x hears q c (omega (arith, less, ne)) used on
    ];
    rest = λ q high. was.rest q (omega (arith, high));
  }

  pub told_put : (k : ℕ) (told : List (Option (List ℤ))) (values : Option (List ℤ)) → k < n → k ≢ i
      → ((x : Received) → Hears d i x → k < d.config.nodes → (c : ℕ) → has_id (d.due i) c ≡ true → at_channel values c ≡ value_in (d.due i) (values_at d k i) c)
      → AreToldBelow d i own k told → AreToldBelow d i own (k + 1) (set told k values)
  told_put k told values low ne are_values was = record {
    wide = length-set told k values ∙ was.wide;
    so_far = λ x hears q c less used on. elim (cases_eq q k) [
      | inl e ↦
          let used_k : k < d.config.nodes = omega (arith, used, e) in
          let room : k < length told = (let w = was.wide in omega arith) in
          ap (λ (m : ℕ). value_told (set told k values) m c) e
          ∙ ap (λ (o : Option (List ℤ)). at_channel o c) (get_or-set_same told k values None room)
          ∙ are_values x hears used_k c on ∙ sym (other_from d i k c x hears used_k ne)
          ∙ ap (λ (m : ℕ). value_from i (has_id d.full i) (d.due i) (own_of d i) x c m) (sym e)
      | inr other ↦ ap (λ (o : Option (List ℤ)). at_channel o c) (get_or-set_other told k q values None other) ∙ was.so_far x hears q c (omega (arith, less, other)) used on
    ];
    rest = λ q high. let other : q ≢ k = omega (arith, high) in get_or-set_other told k q values None other ∙ was.rest q (omega (arith, high));
  }
