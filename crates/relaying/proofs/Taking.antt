-- The frames of a round, taken up one after another.
use Rattle.std.proofs.Common.{ℕ, ◌≡◌, ◌≢◌, ◌<◌, ◌+◌, ◌==◌, ◌||◌, true, false, List, [], length, length-set, get_or-set_other, get_or-set_same, sym, ap, subst, ◌∙◌, inl, inr, arith, eqb-true, eq-eqb, ◌⊎◌, None, Some}
use Rattle.std.specs.Prelude.{slice_index, slice_set, replicate}
use Rattle.std.proofs.lemmas.List.{length-replicate}
use Rattle.std.proofs.lemmas.Bool.{cases_Bool, cases_eq, cases_lt, both_ways, or_cases, or_left, or_right}
use Rattle.node_grid.specs.NodeSet.{has_id, with_id}
use Rattle.node_grid.specs.NodeSetLaws.{has-with_id, hasnt-filter}
use Rattle.error_detect.specs.Watching.{Watch}
use Rattle.relay_walk.specs.declared.round.Round.{Round}
use Rattle.error_detect.specs.Entries.{HoldsBodies}
use Rattle.relaying.specs.Told.{ArePut, entries_of_node}

module _ {N : ℕ} (w : Watch) (others : List ℕ) where
  pub none_put : (round : Round N) → HoldsBodies w round.room.now → round.begins ≡ replicate N 0 → round.next ≡ replicate N 0 → round.present ≡ [] → ArePut w others 0 round
  none_put round room begins next none = record {
    room = room;
    long = ap length begins ∙ length-replicate {A = ℕ} N 0;
    next = next ∙ sym begins;
    others_only = λ q came. absurd (nobody q came);
    begins = λ q came. absurd (nobody q came);
    missing = λ q low. absurd (omega (arith, low));
  } where
    nobody : (q : ℕ) → has_id round.present q ≡ true → ⊥
    nobody q came = let e : false ≡ true = sym (ap (λ (s : List ℕ). has_id s q) none) ∙ came in cc

  -- below one node more, where nothing is known of it but that
  more : (round : Round N) (k : ℕ) → (has_id others k ≡ true → has_id round.present k ≡ false → entries_of_node w k ≡ None) → ArePut w others k round → ArePut w others (k + 1) round
  more round k here put = record {
    room = put.room;
    long = put.long;
    next = put.next;
    others_only = put.others_only;
    begins = put.begins;
    missing = λ q low on off. elim (cases_eq q k) [
      | inl e ↦ ap (entries_of_node w) e ∙ here (ap (has_id others) (sym e) ∙ on) (ap (has_id round.present) (sym e) ∙ off)
      | inr ne ↦ put.missing q (omega (arith, low, ne)) on off
    ];
  }

  pub none_came : (round : Round N) (k : ℕ) → entries_of_node w k ≡ None → ArePut w others k round → ArePut w others (k + 1) round
  none_came round k none put = more round k (λ on off. none) put

  pub not_other : (round : Round N) (k : ℕ) → has_id others k ≡ false → ArePut w others k round → ArePut w others (k + 1) round
  not_other round k off put = more round k (λ on missing. absurd (both_ways _ off on)) put

  pub one_put : (old new : Round N) (k at : ℕ) → k < N → has_id others k ≡ true → entries_of_node w k ≡ Some at → ArePut w others k old
      → new.room.now ≡ old.room.now → new.begins ≡ slice_set old.begins k at → new.next ≡ slice_set old.next k at → new.present ≡ with_id N old.present k → ArePut w others (k + 1) new
  one_put old new k at low on is put room begins next present = record {
    room = subst (HoldsBodies w) (sym room) put.room;
    long = ap length begins ∙ length-set old.begins k at ∙ put.long;
    next = next ∙ ap (λ (xs : List ℕ). slice_set xs k at) put.next ∙ sym begins;
    others_only = λ q came. elim (came_is q came) [
      | inl e ↦ ap (has_id others) e ∙ on
      | inr before ↦ put.others_only q before.1
    ];
    begins = λ q came. elim (came_is q came) [
      | inl e ↦ ap (entries_of_node w) e ∙ is ∙ ap Some (sym (ap (λ (xs : List ℕ). slice_index xs q) begins ∙ ap (slice_index (slice_set old.begins k at)) e ∙ get_or-set_same old.begins k at 0 (let l = put.long in omega (arith, low, l))))
      | inr before ↦ put.begins q before.1 ∙ ap Some (sym (ap (λ (xs : List ℕ). slice_index xs q) begins ∙ get_or-set_other old.begins k q at 0 before.0))
    ];
    missing = λ q below other off. elim (cases_eq q k) [
      | inl e ↦ absurd (both_ways _ off (ap (λ (s : List ℕ). has_id s q) present ∙ has-with_id N old.present k q (omega (arith, e, low)) ∙ or_left (q == k) (has_id old.present q) (eq-eqb q k e)))
      | inr ne ↦ put.missing q (omega (arith, below, ne)) other (was_off q ne (omega (arith, below, low)) off)
    ];
  } where
    came_is : (q : ℕ) → has_id new.present q ≡ true → (q ≡ k) ⊎ ((q ≢ k) × (has_id old.present q ≡ true))
    came_is q came = elim (cases_lt q N) [
      | inl below ↦ elim (or_cases (q == k) (has_id old.present q) (sym (has-with_id N old.present k q below) ∙ sym (ap (λ (s : List ℕ). has_id s q) present) ∙ came)) [
        | inl y ↦ inl (eqb-true q k y)
        | inr before ↦ elim (cases_eq q k) [ inl e ↦ inl e | inr ne ↦ inr (ne, before) ]
      ]
      | inr above ↦ absurd (both_ways _ (ap (λ (s : List ℕ). has_id s q) present ∙ hasnt-filter (λ j. (j == k) || has_id old.present j) N q above) came)
    ]

    was_off : (q : ℕ) → q ≢ k → q < N → has_id new.present q ≡ false → has_id old.present q ≡ false
    was_off q ne below off = elim (cases_Bool (has_id old.present q)) [
      | inr no' ↦ no'
      | inl before ↦ absurd (both_ways _ off (ap (λ (s : List ℕ). has_id s q) present ∙ has-with_id N old.present k q below ∙ or_right (q == k) (has_id old.present q) before))
    ]
