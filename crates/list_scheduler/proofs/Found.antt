-- Sets of nodes that a loop over some nodes gathers by a test.
use Rattle.std.proofs.Common.{◌≡◌, ℕ, ◌<◌, Bool, true, false, ◌&&◌, ◌||◌, List, [], ◌∷◌, ◌++◌, refl, sym, ap, ap₂, ◌∙◌, inl, inr, arith, eqb-true}
use Rattle.std.specs.Prelude.{◌==◌}
use Rattle.std.proofs.lemmas.Bool.{cases_Bool}
use Rattle.node_grid.specs.NodeSet.{has_id, ids_where, with_id, union_of}
use Rattle.node_grid.specs.NodeSetLaws.{filter_range, filter_none, has-filter}
use Rattle.list_scheduler.proofs.Members.{has_this, has_other}

-- those of the nodes that pass
abbrev pub found : ℕ → (ℕ → Bool) → List ℕ → List ℕ
found n p ys = ids_where (λ q. has_id ys q && p q) n

pub found_none : (n : ℕ) (p : ℕ → Bool) → found n p [] ≡ []
found_none n p = filter_none (λ q. has_id [] q && p q) 0 n (λ k l u. refl)

-- a node more, that passes or doesn't
pub found_more : (n : ℕ) (p : ℕ → Bool) (ys : List ℕ) (x : ℕ) → p x ≡ true → with_id n (found n p ys) x ≡ found n p (ys ++ x ∷ [])
found_more n p ys x passes = filter_range (λ k. (k == x) || has_id (found n p ys) k) (λ k. has_id (ys ++ x ∷ []) k && p k) 0 n (λ k l u. elim (cases_Bool (k == x)) [
  | inl on ↦
      let e : k ≡ x = eqb-true k x on in
      rw on (sym (ap₂ ◌&&◌ (ap (has_id (ys ++ x ∷ [])) e ∙ has_this ys x) (ap p e ∙ passes)))
  | inr off ↦
      let ne : (x == k) ≡ false = other k x off in
      rw off (has-filter (λ q. has_id ys q && p q) n k (omega arith) ∙ ap (λ b. b && p k) (sym (has_other ys x k ne)))
])
  where
    other : (a b : ℕ) → (a == b) ≡ false → (b == a) ≡ false
    other a b h = grind arith

pub found_less : (n : ℕ) (p : ℕ → Bool) (ys : List ℕ) (x : ℕ) → p x ≡ false → found n p ys ≡ found n p (ys ++ x ∷ [])
found_less n p ys x fails = filter_range (λ k. has_id ys k && p k) (λ k. has_id (ys ++ x ∷ []) k && p k) 0 n (λ k l u. elim (cases_Bool (x == k)) [
  | inl on ↦
      let e : x ≡ k = eqb-true x k on in
      let no : p k ≡ false = ap p (sym e) ∙ fails in
      rw no (and_no (has_id ys k) ∙ sym (and_no (has_id (ys ++ x ∷ []) k)))
  | inr off ↦ ap (λ b. b && p k) (sym (has_other ys x k off))
])
  where
    and_no : (b : Bool) → (b && false) ≡ false
    and_no true = refl
    and_no false = refl

-- where the other nodes don't pass
pub found_all : (n : ℕ) (p r : ℕ → Bool) (ys : List ℕ) → ((q : ℕ) → q < n → (has_id ys q && p q) ≡ r q) → found n p ys ≡ ids_where r n
found_all n p r ys same = filter_range (λ k. has_id ys k && p k) r 0 n (λ k l u. same k (omega arith))

-- unions and differences of sets that tests give
pub union_where : (n : ℕ) (p r : ℕ → Bool) → union_of n (ids_where p n) (ids_where r n) ≡ ids_where (λ q. p q || r q) n
union_where n p r = filter_range (λ k. has_id (ids_where p n) k || has_id (ids_where r n) k) (λ k. p k || r k) 0 n (λ k l u.
    ap₂ ◌||◌ (has-filter p n k (omega arith)) (has-filter r n k (omega arith)))
