-- Loops over the members of a set: what was yielded, and that the next member is a new one.
use Rattle.std.proofs.Common.{cond, ◌≡◌, ℕ, zero, suc, ◌+◌, ◌<◌, ◌≤◌, Bool, true, false, List, [], ◌∷◌, ◌++◌, refl, ap, sym, ◌∙◌, arith, eq-eqb, ne_eqb, append_assoc}
use Rattle.std.specs.Prelude.{◌==◌}
use Rattle.std.specs.List.{filter, range_with_len}
use Rattle.node_grid.specs.NodeSet.{has_id, IsIdSet}
use Rattle.std.proofs.Math.Bool.{or-false, or-true}
use Rattle.node_grid.specs.ListLaws.{has_push}

-- the next member of a set, where these were yielded
pub record IsNext (n : ℕ) (yielded : List ℕ) (node : ℕ) : Type 0 where
  pub fresh : has_id yielded node ≡ false
  pub within : node < n

-- the same of the numbers from a on that pass a test
abbrev IsNextFrom : ℕ → ℕ → List ℕ → ℕ → Type 0
IsNextFrom a end ys x = (has_id ys x ≡ false) × (a ≤ x) × (x < end)

next_by_test : (a n : ℕ) (rest : List ℕ) (x : ℕ) (zs : List ℕ) → ((us : List ℕ) → rest ≡ us ++ x ∷ zs → IsNextFrom (a + 1) (a + suc n) us x)
    → (b : Bool) (ys : List ℕ) → cond b (a ∷ rest) rest ≡ ys ++ x ∷ zs → IsNextFrom a (a + suc n) ys x
next_by_test a n rest x zs later false ys e = let r = later ys e in let l = r.1 in (r.0, omega arith, r.2)
next_by_test a n rest x zs later true [] e = let d : a ≡ x = cc in (refl, omega arith, omega arith)
next_by_test a n rest x zs later true (u ∷ us) e =
    let d : a ≡ u = cc in
    let t : rest ≡ us ++ x ∷ zs = cc in
    let r = later us t in
    let l = r.1 in
    let ne : (u == x) ≡ false = ne_eqb u x (λ same. absurd (omega arith)) in
    (rw ne r.0, omega arith, r.2)

next_of_range : (p : ℕ → Bool) (a n : ℕ) (ys : List ℕ) (x : ℕ) (zs : List ℕ) → filter p (range_with_len a n) ≡ ys ++ x ∷ zs → IsNextFrom a (a + n) ys x
next_of_range p a zero [] x zs h = cc
next_of_range p a zero (y ∷ ys) x zs h = cc
next_of_range p a (suc n) ys x zs h = next_by_test a n (filter p (range_with_len (a + 1) n)) x zs
    (λ us e. let r = next_of_range p (a + 1) n us x zs e in let u = r.2 in (r.0, r.1, omega arith))
    (p a) ys h

pub next_member : (n : ℕ) (members ys : List ℕ) (x : ℕ) (zs : List ℕ) → IsIdSet n members → members ≡ ys ++ x ∷ zs → IsNext n ys x
next_member n members ys x zs set split =
    let r = next_of_range (λ k. has_id members k) 0 n ys x zs (sym set ∙ split) in
    let u = r.2 in
    record { fresh = r.0; within = omega arith }

-- what the list with one more has
pub has_this : (ys : List ℕ) (x : ℕ) → has_id (ys ++ x ∷ []) x ≡ true
has_this ys x = has_push ys x x ∙ rw (eq-eqb x x refl) (or-true (has_id ys x))

pub has_other : (ys : List ℕ) (x q : ℕ) → (x == q) ≡ false → has_id (ys ++ x ∷ []) q ≡ has_id ys q
has_other ys x q ne = has_push ys x q ∙ rw ne (or-false (has_id ys q))

-- the split of a set after one more step
pub one_more : (members ys : List ℕ) (x : ℕ) (zs : List ℕ) → members ≡ ys ++ x ∷ zs → members ≡ (ys ++ x ∷ []) ++ zs
one_more members ys x zs split = split ∙ sym (append_assoc ys (x ∷ []) zs)

-- what the loops' calls ask: the next member is a node, and fewer members are left
pub next_within : (n : ℕ) (members ys : List ℕ) {rest : List ℕ} {x : ℕ} {zs : List ℕ} → IsIdSet n members → members ≡ ys ++ rest → rest ≡ x ∷ zs → x < n
next_within n members ys {rest} {x} {zs} set split step = let next = next_member n members ys x zs set (split ∙ ap (λ (xs : List ℕ). ys ++ xs) step) in next.within
