-- The sets of restarting nodes, with one restart more.
use Rattle.std.proofs.Common.{◌≡◌, ◌≢◌, ℕ, zero, suc, ◌+◌, ◌-◌, ◌<◌, ◌≤◌, Bool, true, false, ◌&&◌, ◌||◌, List, [], ◌∷◌, ◌++◌, length, get_or, set, Option, None, Some, refl, sym, ap, ◌∙◌, inl, inr, arith, ltb-true, leb-true, length-set, get_or-set_same, get_or-set_other}
use Rattle.std.specs.Prelude.{◌==◌}
use Rattle.std.specs.List.{list_any}
use Rattle.std.proofs.lemmas.Bool.{cases_Bool, cases_eq, and_parts, eq-eqb, ne_eqb}
use Rattle.std.proofs.lemmas.List.Folds.{list_any-append}
use Rattle.node_grid.specs.NodeSet.{with_id}
use Rattle.node_grid.specs.NodeSetLaws.{filter_range, has-filter}
use Rattle.fault_classes.specs.declared.line.Restart.{Restart}
use Rattle.fault_classes.specs.Plan.{is_restart_of}
use Rattle.fault_classes.specs.Rules.{is_restart, comes_after, first_bad_restart}
use Rattle.fault_classes.specs.Index.{IsRestarting}
use Rattle.node_grid.specs.ListLaws.{eqb_sym}

first_good : (nodes periods : ℕ) (before : Option Restart) (k : ℕ) (r : Restart) (rs : List Restart) → first_bad_restart nodes periods before k (r ∷ rs) ≡ None
    → (is_restart nodes periods r ≡ true) × (first_bad_restart nodes periods (Some r) (k + 1) rs ≡ None)
first_good nodes periods before k r rs e = elim (cases_Bool (is_restart nodes periods r && comes_after before r)) [
  | inl good ↦ ((and_parts _ _ good).0, rw good at e)
  | inr bad ↦ let no_way : Some k ≡ None = rw bad at e in cc
]

pub restart_ok : (nodes periods : ℕ) (before : Option Restart) (k : ℕ) (xs : List Restart) (i : ℕ) (d : Restart) → i < length xs → first_bad_restart nodes periods before k xs ≡ None → is_restart nodes periods (get_or xs i d) ≡ true
restart_ok nodes periods before k [] i d h e = absurd (omega arith)
restart_ok nodes periods before k (r ∷ rs) zero d h e = (first_good nodes periods before k r rs e).0
restart_ok nodes periods before k (r ∷ rs) (suc i) d h e = restart_ok nodes periods (Some r) (k + 1) rs i d (omega arith) (first_good nodes periods before k r rs e).1

pub restart_parts : (nodes periods : ℕ) (r : Restart) → is_restart nodes periods r ≡ true → (r.node < nodes) × (r.period < periods)
restart_parts nodes periods r h =
    let p = and_parts _ _ h in
    let q = and_parts _ _ p.1 in
    let some : 1 ≤ r.period = leb-true 1 r.period q.0 in
    let low : r.period ≤ periods - 1 = leb-true r.period (periods - 1) q.1 in
    (ltb-true r.node nodes p.0, omega arith)

pub restarting_push : (n periods : ℕ) (xs : List Restart) (r : Restart) (sets : List (List ℕ)) (new : List ℕ) → IsRestarting n periods xs sets → r.period < periods
    → new ≡ with_id n (get_or sets r.period []) r.node → IsRestarting n periods (xs ++ r ∷ []) (set sets r.period new)
restarting_push n periods xs r sets new h within e = record {
  long = length-set sets r.period new ∙ h.long;
  members = λ p low. elim (cases_eq p r.period) [
    | inl s ↦
        ap (λ q. get_or (set sets r.period new) q []) s ∙ get_or-set_same sets r.period new [] (omega (arith, h.long)) ∙ e
        ∙ ap (λ old. with_id n old r.node) (h.members r.period within)
        ∙ filter_range _ _ 0 n (λ k l u. ap (λ b. k == r.node || b) (has-filter (λ i. list_any (is_restart_of i r.period) xs) n k (omega arith))
        ∙ joins k ∙ ap (λ q. list_any (is_restart_of k q) (xs ++ r ∷ [])) (sym s))
    | inr ne ↦
        get_or-set_other sets r.period p new [] ne ∙ h.members p low
        ∙ filter_range _ _ 0 n (λ k l u. stays k p ne)
  ];
}
  where
    swap : (a b : Bool) → (a || b) ≡ (b || (a && true || false))
    swap true true = refl
    swap true false = refl
    swap false true = refl
    swap false false = refl

    joins : (k : ℕ) → (k == r.node || list_any (is_restart_of k r.period) xs) ≡ list_any (is_restart_of k r.period) (xs ++ r ∷ [])
    joins k =
        let t : (k == r.node) ≡ (r.node == k) = eqb_sym k r.node in
        let z : (r.period == r.period) ≡ true = eq-eqb r.period r.period refl in
        rw (t, list_any-append (is_restart_of k r.period) xs (r ∷ []), z) (swap (r.node == k) (list_any (is_restart_of k r.period) xs))

    stay : (a b : Bool) → a ≡ (a || (b && false || false))
    stay true b = refl
    stay false true = refl
    stay false false = refl

    stays : (k p : ℕ) → p ≢ r.period → list_any (is_restart_of k p) xs ≡ list_any (is_restart_of k p) (xs ++ r ∷ [])
    stays k p ne =
        let z : (r.period == p) ≡ false = ne_eqb r.period p (λ e. ne (sym e)) in
        rw (list_any-append (is_restart_of k p) xs (r ∷ []), z) (stay (list_any (is_restart_of k p) xs) (r.node == k))
