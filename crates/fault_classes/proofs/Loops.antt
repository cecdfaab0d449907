-- Loops over all nodes or all slots.
use Rattle.std.proofs.Common.{◌≡◌, ◌≢◌, ℕ, ◌<◌, Bool, true, false, ◌&&◌, ◌||◌, Option, refl, sym, ap, ◌∙◌, inl, inr}
use Rattle.std.specs.Prelude.{◌==◌}
use Rattle.std.specs.List.{list_all}
use Rattle.std.proofs.lemmas.Bool.{or_cases, or_left, or_right}
use Rattle.node_grid.specs.NodeSet.{ids_below}
use Rattle.node_grid.specs.NumberFacts.{other_fails}
use Rattle.node_grid.specs.SetFacts.{all_ids}
use Rattle.fault_classes.specs.Facts.{change_touches}
use Rattle.fault_classes.specs.Change.{Change, same_effect}
use Rattle.fault_classes.specs.ChangeLaws.{same_effect-refl, same_effect_is}
use Rattle.node_grid.specs.NodeSetLaws.{not_all_ids}

-- ---- frames that are all touched as the first one is

abbrev pub pair_alike : (ℕ → Option Change) → ℕ → ℕ → ℕ → Bool
pair_alike e j i h = i == j || (h == j || same_effect (e i) (e h))

pub symmetric_from : (e : ℕ → Option Change) (n j first : ℕ) → ((k : ℕ) → k < n → (k == j || same_effect (e first) (e k)) ≡ true)
    → list_all (λ i. list_all (pair_alike e j i) (ids_below n)) (ids_below n) ≡ true
symmetric_from e n j first alike = all_ids _ n (λ i hi. all_ids (pair_alike e j i) n (λ h hh. pair i h (alike i hi) (alike h hh)))
  where
    pair : (i h : ℕ) → (i == j || same_effect (e first) (e i)) ≡ true → (h == j || same_effect (e first) (e h)) ≡ true → pair_alike e j i h ≡ true
    pair i h a b = elim (or_cases (i == j) (same_effect (e first) (e i)) a) [
      | inl x ↦ or_left (i == j) _ x
      | inr x ↦ or_right (i == j) _ (elim (or_cases (h == j) (same_effect (e first) (e h)) b) [
        | inl y ↦ or_left (h == j) _ y
        | inr y ↦
            let s : e i ≡ e h = sym (same_effect_is (e first) (e i) x) ∙ same_effect_is (e first) (e h) y in
            or_right (h == j) _ (ap (same_effect (e i)) (sym s) ∙ same_effect-refl (e i))
      ])
    ]

pub not_symmetric_from : (e : ℕ → Option Change) (n j first k : ℕ) → first < n → first ≢ j → k < n → k ≢ j → same_effect (e first) (e k) ≡ false
    → list_all (λ i. list_all (pair_alike e j i) (ids_below n)) (ids_below n) ≡ false
not_symmetric_from e n j first k hf nf hk nk differ =
    not_all_ids _ n first hf (not_all_ids (pair_alike e j first) n k hk (other_fails first j _ nf (other_fails k j _ nk differ)))

-- ---- a test of four parts

pub fourth : (a b c d : Bool) → a ≡ true → b ≡ true → c ≡ true → d ≡ (a && (b && (c && d)))
fourth a b c d x y z = rw (x, y, z) refl

pub third_fails : (a b c d : Bool) → c ≡ false → (a && (b && (c && d))) ≡ false
third_fails a b c d z = rw z (none a b)
  where
    none : (a b : Bool) → (a && (b && false)) ≡ false
    none true true = refl
    none true false = refl
    none false b = refl

pub second_fails : (a b e : Bool) → b ≡ false → (a && (b && e)) ≡ false
second_fails a b e z = rw z (none a)
  where
    none : (a : Bool) → (a && false) ≡ false
    none true = refl
    none false = refl
