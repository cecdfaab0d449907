-- The nonfaulty members outnumber those whose rows may say anything.
use Rattle.std.proofs.Common.{ℕ, ◌≡◌, ◌≤◌, ◌+◌, Bool, true, false, not, ◌&&◌, ◌==◌, List, [], ◌∷◌, Option, None, Some, refl, ap, subst, ◌∙◌, inl, inr, arith, eqb-true, eq-eqb, lt-ltb, le-ltb}
use Rattle.std.proofs.lemmas.Bool.{eqb-false, or_left, or_right, and_parts, both_ways}
use Rattle.node_grid.specs.declared.class.Class.{Class}
use Rattle.node_grid.specs.declared.class.Class.TheVariants.{N, J, B, S, A}
use Rattle.node_grid.specs.Class.{is_nonfaulty, is_silent, is_symmetric, is_asymmetric}
use Rattle.node_grid.specs.NodeSet.{has_id}
use Rattle.node_grid.specs.Count.{bit, count}
use Rattle.node_grid.specs.Matrix.{row_at}
use Rattle.node_grid.specs.SetFacts.{none_counted}
use Rattle.node_grid.specs.TruthFacts.{is_n}
use Rattle.error_reports.specs.Charge.{is_row, row_accuses, accuses, is_voter, is_accuser, charged}
use Rattle.safety.specs.Rows.{NoCharge, FullCharge}
use Rattle.safety.proofs.Classes.{more_nonfaulty}
use Rattle.safety.proofs.Lists.{once, fewer, and_false}

-- of one member: its class, whether it is the accused node, whether it has a plain row, and whether that accuses
record Quiet (c : Class) (same plain accusing : Bool) : Type 0 where
  few : bit (not same && accusing) ≤ bit (is_asymmetric c) + bit (is_symmetric c)
  more : bit (is_nonfaulty c) + bit (not same && accusing) ≤ bit (not same && plain) + bit same

quiet : (c : Class) (same plain accusing : Bool) → (accusing ≡ true → plain ≡ true) → (c ≡ N → same ≡ false → accusing ≡ false) → (c ≡ N → plain ≡ true) → (is_silent c ≡ true → plain ≡ false)
    → Quiet c same plain accusing
quiet N true p a imp n stand fail = record { few = omega arith; more = omega arith }
quiet N false p a imp n stand fail = let e = n refl refl in let f = stand refl in rw (e, f) (record { few = omega arith; more = omega arith })
quiet J s p a imp n stand fail = silent s p a imp (fail refl) where
  silent : (s p a : Bool) → (a ≡ true → p ≡ true) → p ≡ false → Quiet J s p a
  silent s p true imp f = absurd (both_ways _ f (imp refl))
  silent true p false imp f = record { few = omega arith; more = omega arith }
  silent false p false imp f = record { few = omega arith; more = omega arith }
quiet B s p a imp n stand fail = silent s p a imp (fail refl) where
  silent : (s p a : Bool) → (a ≡ true → p ≡ true) → p ≡ false → Quiet B s p a
  silent s p true imp f = absurd (both_ways _ f (imp refl))
  silent true p false imp f = record { few = omega arith; more = omega arith }
  silent false p false imp f = record { few = omega arith; more = omega arith }
quiet S true p a imp n stand fail = record { few = omega arith; more = omega arith }
quiet S false p true imp n stand fail = rw (imp refl) (record { few = omega arith; more = omega arith })
quiet S false p false imp n stand fail = record { few = omega arith; more = omega arith }
quiet A true p a imp n stand fail = record { few = omega arith; more = omega arith }
quiet A false p true imp n stand fail = rw (imp refl) (record { few = omega arith; more = omega arith })
quiet A false p false imp n stand fail = record { few = omega arith; more = omega arith }

accusing_plain : (o : Option (List ℕ)) (j k : ℕ) → row_accuses o j k ≡ true → is_row o ≡ true
accusing_plain None j k h = cc
accusing_plain (Some r) j k h = refl

-- what stands in a plain row
plain_says : (o : Option (List ℕ)) (r : List ℕ) (j k : ℕ) (b : Bool) → o ≡ Some r → accuses r j k ≡ b → row_accuses o j k ≡ b
plain_says o r j k b e f = ap (λ (x : Option (List ℕ)). row_accuses x j k) e ∙ f

-- of a list of members, each of which is as `Quiet` says
record QuietAll (class_of : ℕ → Class) (rows : List (Option (List ℕ))) (j k : ℕ) (qs : List ℕ) : Type 0 where
  few : count (is_accuser rows j k) qs ≤ count (λ q. is_asymmetric (class_of q)) qs + count (λ q. is_symmetric (class_of q)) qs
  more : count (λ q. is_nonfaulty (class_of q)) qs + count (is_accuser rows j k) qs ≤ count (is_voter rows j) qs + count (λ q. q == j) qs

quiet_all : (class_of : ℕ → Class) (rows : List (Option (List ℕ))) (j k : ℕ) (qs : List ℕ)
    → ((q : ℕ) → has_id qs q ≡ true → Quiet (class_of q) (q == j) (is_row (row_at rows q)) (row_accuses (row_at rows q) j k)) → QuietAll class_of rows j k qs
quiet_all class_of rows j k [] h = record { few = omega arith; more = omega arith }
quiet_all class_of rows j k (q ∷ qs) h =
    let here = h q (or_left _ _ (eq-eqb q q refl)) in
    let a = here.few in
    let b = here.more in
    let rest = quiet_all class_of rows j k qs (λ x on. h x (or_right (q == x) _ on)) in
    record { few = omega arith; more = omega arith }

pub no_charge_law : NoCharge
unfolding charged
no_charge_law class_of members rounds row rows within fit j k none =
    let all = quiet_all class_of rows j k members (λ q on. quiet (class_of q) (q == j) _ _ (accusing_plain (row_at rows q) j k)
    (λ n apart. plain_says (row_at rows q) (row q) j k false (fit.stand q on n) (none q on n (eqb-false q j apart)))
    (λ n. ap is_row (fit.stand q on n))
    (λ s. ap is_row (fit.fail q on s))) in
    let most = more_nonfaulty class_of members rounds within in
    let one = once members j fit.distinct in
    le-ltb _ _ (omega arith)

-- the same where each nonfaulty member but the accused node accuses
record Loud (c : Class) (same plain accusing : Bool) : Type 0 where
  few : bit (not same && plain) ≤ bit (not same && accusing) + bit (is_asymmetric c) + bit (is_symmetric c)
  more : bit (is_nonfaulty c) ≤ bit (not same && accusing) + bit (same && is_nonfaulty c)

loud : (c : Class) (same plain accusing : Bool) → (c ≡ N → same ≡ false → accusing ≡ true) → (is_silent c ≡ true → plain ≡ false)
    → Loud c same plain accusing
loud N true p a n fail = record { few = omega arith; more = omega arith }
loud N false true a n fail = let e = n refl refl in rw e (record { few = omega arith; more = omega arith })
loud N false false a n fail = let e = n refl refl in rw e (record { few = omega arith; more = omega arith })
loud J true p a n fail = record { few = omega arith; more = omega arith }
loud J false p a n fail = rw (fail refl) (record { few = omega arith; more = omega arith })
loud B true p a n fail = record { few = omega arith; more = omega arith }
loud B false p a n fail = rw (fail refl) (record { few = omega arith; more = omega arith })
loud S true p a n fail = record { few = omega arith; more = omega arith }
loud S false true a n fail = record { few = omega arith; more = omega arith }
loud S false false a n fail = record { few = omega arith; more = omega arith }
loud A true p a n fail = record { few = omega arith; more = omega arith }
loud A false true a n fail = record { few = omega arith; more = omega arith }
loud A false false a n fail = record { few = omega arith; more = omega arith }

record LoudAll (class_of : ℕ → Class) (rows : List (Option (List ℕ))) (j k : ℕ) (qs : List ℕ) : Type 0 where
  few : count (is_voter rows j) qs ≤ count (is_accuser rows j k) qs + count (λ q. is_asymmetric (class_of q)) qs + count (λ q. is_symmetric (class_of q)) qs
  more : count (λ q. is_nonfaulty (class_of q)) qs ≤ count (is_accuser rows j k) qs + count (λ q. q == j && is_nonfaulty (class_of q)) qs

loud_all : (class_of : ℕ → Class) (rows : List (Option (List ℕ))) (j k : ℕ) (qs : List ℕ)
    → ((q : ℕ) → has_id qs q ≡ true → Loud (class_of q) (q == j) (is_row (row_at rows q)) (row_accuses (row_at rows q) j k)) → LoudAll class_of rows j k qs
loud_all class_of rows j k [] h = record { few = omega arith; more = omega arith }
loud_all class_of rows j k (q ∷ qs) h =
    let here = h q (or_left _ _ (eq-eqb q q refl)) in
    let a = here.few in
    let b = here.more in
    let rest = loud_all class_of rows j k qs (λ x on. h x (or_right (q == x) _ on)) in
    record { few = omega arith; more = omega arith }

pub full_charge_law : FullCharge
unfolding charged
full_charge_law class_of members rounds row rows within fit j k can says =
    let all = loud_all class_of rows j k members (λ q on. loud (class_of q) (q == j) _ _
    (λ n apart. plain_says (row_at rows q) (row q) j k true (fit.stand q on n) (says q on n (eqb-false q j apart)))
    (λ s. ap is_row (fit.fail q on s))) in
    let most = more_nonfaulty class_of members rounds within in
    let room : count (λ q. q == j && is_nonfaulty (class_of q)) members ≤ rounds = elim can [
      | inl not_n ↦ let e = none_counted (λ q. q == j && is_nonfaulty (class_of q)) members (λ q on. and_false _ _ (λ s n.
          let e = eqb-true q j s in
          not_n (subst (λ (x : ℕ). has_id members x ≡ true) e on) (subst (λ (x : ℕ). class_of x ≡ N) e (is_n _ n)))) in omega arith
      | inr some ↦ let f = fewer (λ q. q == j && is_nonfaulty (class_of q)) (λ q. q == j) members (λ q on h. (and_parts _ _ h).0) in let one = once members j fit.distinct in omega arith
    ] in
    lt-ltb _ _ (omega arith)
