-- The values that a node has from each sender, where nothing is told with a finding that is an error.
use Rattle.std.proofs.Common.{ℕ, ◌≡◌, ◌≢◌, ◌<◌, ◌==◌, Bool, if◌then◌else◌, List, refl, sym, ap, ◌∙◌, eq-eqb, ne_eqb, Option, None, Some, ℤ}
use Rattle.std.specs.Prelude.{IsSome}
use Rattle.std.proofs.lemmas.Bool.{cond-true, cond-false, false≢true}
use Rattle.frames.specs.Content.{Content, Expectation}
use Rattle.error_detect.specs.Finding.{kind_of}
use Rattle.error_detect.specs.Good.{IsToldWith}
use Rattle.error_detect.specs.GoodLaws.{good_fits}
use Rattle.error_detect.specs.Watching.{Watch, finding_at, of_sender, told_at}
use Rattle.protocol.specs.Arrival.{arrived, values_in}
use Rattle.protocol.specs.View.{own_in, value_from, value_in}
use Rattle.noting.specs.Findings.{has_of}
use Rattle.data_slot.specs.Values.{only_values}

value_by : (due : List ℕ) (c : ℕ) (e : Expectation) (kind : Option ℕ) (o : Option Content) → IsToldWith e kind o → value_in due (arrived values_in None o) c ≡ value_in due (arrived values_in kind o) c
value_by due c e None o h = refl
value_by due c e (Some n) o h = ap (λ x. value_in due (arrived values_in None x) c) h

value_had : (due : List ℕ) (w : Watch) (q c : ℕ) → IsSome w.expect → q < w.nodes → q ≢ w.me → value_in due (arrived values_in None (told_at w q)) c ≡ value_in due (has_of values_in w q) c
value_had due w q c some low ne = go w.expect refl some where
  go : (o : Option Expectation) → w.expect ≡ o → IsSome o → value_in due (arrived values_in None (told_at w q)) c ≡ value_in due (has_of values_in w q) c
  go None is s = absurd (false≢true s)
  go (Some e) is s = value_by due c (of_sender q e) (kind_of (finding_at w q)) (told_at w q) (good_fits w e q is low ne)

-- the value from another node, and a node's own one
pub from_other : (me : ℕ) (full : Bool) (due : List ℕ) (own : List (Option ℤ)) (w : Watch) (q c : ℕ) → q ≢ me → IsSome w.expect → q < w.nodes → w.me ≡ me
    → value_in due (arrived values_in None (told_at w q)) c ≡ value_from me full due own (only_values w) c q
from_other me full due own w q c ne some low is =
    value_had due w q c some low (λ e. ne (e ∙ is))
    ∙ sym (cond-false (q == me) (if full then Some (own_in own c) else None) (value_in due (has_of values_in w q) c) (ne_eqb q me ne))

pub from_self : (me : ℕ) (full : Bool) (due : List ℕ) (own : List (Option ℤ)) (w : Watch) (q c : ℕ) → q ≡ me
    → (if full then Some (own_in own c) else None) ≡ value_from me full due own (only_values w) c q
from_self me full due own w q c e = sym (cond-true (q == me) (if full then Some (own_in own c) else None) (value_in due (has_of values_in w q) c) (eq-eqb q me e))
