-- What nodes note.
use Rattle.std.proofs.Common.{ℕ, ◌≡◌, ◌≢◌, ◌<◌, ◌≤◌, ◌==◌, ◌&&◌, ◌||◌, Bool, true, false, not, List, [], sym, ap, ◌∙◌, ne_eqb, Option}
use Rattle.node_grid.specs.Kinds.{deviate}
use Rattle.node_grid.specs.NodeSet.{has_id, without_id}
use Rattle.node_grid.specs.NodeSetLaws.{has-without_id}
use Rattle.error_reports.specs.Notes.{Notes, also_noted, is_kind, of_each}
use Rattle.error_reports.specs.NoteLaws.{noted_alike, noted_twice}
use Rattle.protocol.specs.Arrival.{Arrival, is_bad, is_good}
use Rattle.protocol.specs.Facts.{none_bad}
use Rattle.told_values.specs.Within.{IsWithin}

-- where nobody else is off, nobody is noted
pub nobody_off : (capacity : ℕ) (n : Notes) (off : List ℕ) → without_id off n.me ≡ [] → IsWithin capacity n → n ≡ also_noted capacity n (of_each off deviate)
nobody_off capacity n off none within =
    sym (noted_alike capacity n (of_each off deviate) (λ j k. false) (λ j k low used other few. ap (λ (b : Bool). b && k == deviate) (isnt_off j other)) ∙ within)
  where
    isnt_off : (j : ℕ) → j ≢ n.me → has_id off j ≡ false
    isnt_off j ne = sym (ap (λ (b : Bool). not b && has_id off j) (ne_eqb j n.me ne)) ∙ sym (has-without_id off n.me j) ∙ ap (λ (s : List ℕ). has_id s j) none

-- where all that came is good, no error is noted
pub no_error : {C : Type 0} (capacity : ℕ) (n : Notes) (a : ℕ → Arrival C) → ((j : ℕ) → j < n.nodes → j ≢ n.me → is_good (a j) ≡ true) → IsWithin capacity n → n ≡ also_noted capacity n (λ j k. is_bad (a j) k)
no_error capacity n a good within =
    sym (noted_alike capacity n (λ j k. is_bad (a j) k) (λ j k. false) (λ j k low used other few. none_bad (a j) k (good j used other)) ∙ within)

-- kinds of error that are those of what came
pub errors_are : {C : Type 0} (capacity : ℕ) (n new : Notes) (kinds : ℕ → Option ℕ) (a : ℕ → Arrival C) → new ≡ also_noted capacity n (λ j k. is_kind (kinds j) k)
    → ((j k : ℕ) → j < n.nodes → j ≢ n.me → is_kind (kinds j) k ≡ is_bad (a j) k) → new ≡ also_noted capacity n (λ j k. is_bad (a j) k)
errors_are capacity n new kinds a is same = is ∙ noted_alike capacity n (λ j k. is_kind (kinds j) k) (λ j k. is_bad (a j) k) (λ j k low used other few. same j k used other)

-- errors, and besides who is off
pub noted_both : (capacity : ℕ) (old mid new : Notes) (bad : ℕ → ℕ → Bool) (off : List ℕ) (far : ℕ → Bool) → old.kinds ≤ 16
    → mid ≡ also_noted capacity old bad → new ≡ also_noted capacity mid (of_each off deviate) → ((q : ℕ) → q < old.nodes → q ≢ old.me → has_id off q ≡ far q)
    → new ≡ also_noted capacity old (λ q k. bad q k || (far q && k == deviate))
noted_both capacity old mid new bad off far few mid_is new_is same =
    new_is ∙ ap (λ (n : Notes). also_noted capacity n (of_each off deviate)) mid_is ∙ noted_twice capacity old bad (of_each off deviate) few
    ∙ noted_alike capacity old (λ j k. bad j k || of_each off deviate j k) (λ j k. bad j k || (far j && k == deviate))
    (λ j k low used other within. ap (λ (b : Bool). bad j k || (b && k == deviate)) (same j used other))
