-- What a node is told by lies, by sender, where they are gone through from the last to the first.
use Rattle.std.proofs.Common.{ℕ, ◌≡◌, ◌≢◌, ◌<◌, ◌^◌, ◌&&◌, Bool, true, false, List, ◌∷◌, map, length, set, get_or, ℤ, pos, sym, ap, subst, ◌∙◌, inl, inr, arith, ne_eqb, length-set, get_or-set_other, get_or-set_same}
use Rattle.std.specs.Prelude.{All, nat_le}
use Rattle.std.proofs.lemmas.Bool.{cases_eq, cond-true, cond-false}
use Rattle.std.proofs.lemmas.List.FromFn.{fill_by_all}
use Rattle.std.proofs.lemmas.List.Elements.{All-from_get_or}
use Rattle.node_grid.specs.NodeSet.{ids_below, has_id}
use Rattle.clock_skew.specs.Facts.{told_near}
use Rattle.clock_skew.specs.Clock.{LieView, is_told, first_told, IsUpTo, IsLie}

-- the lies behind a place were gone through: by sender, the first of them that is told
pub record AreTold (n i p : ℕ) (ls : List LieView) (told : List ℤ) : Type 0 where
  pub wide : length told ≡ n
  pub each : (j : ℕ) → j < n → get_or told j (pos 0) ≡ first_told j i p ls

module _ (n i p : ℕ) (l : LieView) (ls : List LieView) (told : List ℤ) (h : AreTold n i p ls told) where
  -- it is no lie of another node
  of_another : (j : ℕ) → j ≢ l.from → is_told j i p l ≡ false
  of_another j ne = ap (λ (b : Bool). b && (has_id l.to i && (nat_le l.first p && nat_le p l.last))) (ne_eqb l.from j (λ e. ne (sym e)))

  pub more_told : (v : ℤ) → l.from < n → v ≡ l.by → is_told l.from i p l ≡ true → AreTold n i p (l ∷ ls) (set told l.from v)
  more_told v low is on = record {
    wide = length-set told l.from v ∙ h.wide;
    each = λ j small. elim (cases_eq j l.from) [
      | inl e ↦
          let room : l.from < length told = (let w = h.wide in omega arith) in
          ap (λ (k : ℕ). get_or (set told l.from v) k (pos 0)) e ∙ get_or-set_same told l.from v (pos 0) room ∙ is
          ∙ sym (cond-true (is_told j i p l) l.by (first_told j i p ls) (ap (λ (k : ℕ). is_told k i p l) e ∙ on))
      | inr ne ↦ get_or-set_other told l.from j v (pos 0) ne ∙ h.each j small ∙ sym (cond-false (is_told j i p l) l.by (first_told j i p ls) (of_another j ne))
    ];
  }

  pub not_told : is_told l.from i p l ≡ false → AreTold n i p (l ∷ ls) told
  not_told off = record {
    wide = h.wide;
    each = λ j small. h.each j small ∙ sym (cond-false (is_told j i p l) l.by (first_told j i p ls) (elim (cases_eq j l.from) [
      | inl e ↦ ap (λ (k : ℕ). is_told k i p l) e ∙ off
      | inr ne ↦ of_another j ne
    ]));
  }

pub all_told : (n i p : ℕ) (ls : List LieView) (told : List ℤ) → AreTold n i p ls told → told ≡ map (λ j. first_told j i p ls) (ids_below n)
all_told n i p ls told h = fill_by_all (λ j. first_told j i p ls) told n (pos 0) h.wide h.each

pub all_near : (n nodes i p : ℕ) (ls : List LieView) (told : List ℤ) → AreTold n i p ls told → All (IsLie nodes) ls → All (IsUpTo (pos (2 ^ 40))) told
all_near n nodes i p ls told h all = All-from_get_or (IsUpTo (pos (2 ^ 40))) told (pos 0) (λ k low.
    subst (λ (z : ℤ). IsUpTo (pos (2 ^ 40)) z) (sym (h.each k (omega (arith, h.wide, low)))) (told_near nodes k i p ls all))
