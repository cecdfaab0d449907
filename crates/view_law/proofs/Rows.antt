-- Rows of notes: when two are the same, and what they tell.
use Rattle.std.proofs.Common.{ℕ, ◌≡◌, ◌≢◌, ◌<◌, ◌≤◌, ◌==◌, ◌||◌, ◌&&◌, Bool, true, false, not, List, replicate, refl, sym, ap, ap₂, ◌∙◌, ne_eqb, ltb-true, lt-ltb, nat_lt}
use Rattle.std.specs.Prelude.{if◌then◌else◌}
use Rattle.std.specs.Int.{bit_at}
use Rattle.std.proofs.lemmas.Bool.{cond-true, and_parts, not-true, eqb-false}
use Rattle.std.proofs.lemmas.List.{get_or-replicate, length-replicate}
use Rattle.std.proofs.lemmas.List.FromFn.{fill_by_all}
use Rattle.node_grid.specs.NodeSet.{ids_where, mask_of}
use Rattle.node_grid.specs.MaskLaws.{mask-has, same_masks}
use Rattle.node_grid.specs.TruthFacts.{or_false, if_full}
use Rattle.error_reports.specs.Charge.{accuses}
use Rattle.error_reports.specs.Notes.{Notes, noted_row, also_noted, also_carried}
use Rattle.error_reports.specs.NoteLaws.{noted_twice, noted_alike, carried_alike}
use Rattle.protocol.specs.RowLaws.{mask-zero}
use Rattle.safety.proofs.Lists.{map_below, tabulated}
use Rattle.safety.proofs.Induction.{accuses_none}
use Rattle.view_law.specs.Laws.{IsWithin, IsCarriedWithin, SaysNothing}

module _ (capacity kinds nodes me : ℕ) where
  -- the mask of a node
  abbrev mask_at : (ℕ → ℕ → Bool) → ℕ → ℕ
  mask_at f j = if nat_lt j nodes && not (j == me) then mask_of (ids_where (f j) kinds) else 0

  -- what is said alike of each other node in use
  abbrev pub Alike : (ℕ → ℕ → Bool) → (ℕ → ℕ → Bool) → Type 0
  Alike f g = (j e : ℕ) → j < capacity → j < nodes → j ≢ me → e < kinds → f j e ≡ g j e

  other : (j : ℕ) → (nat_lt j nodes && not (j == me)) ≡ true → (j < nodes) × (j ≢ me)
  other j h = let p = and_parts (nat_lt j nodes) (not (j == me)) h in (ltb-true j nodes p.0, eqb-false j me (not-true (j == me) p.1))

  pub row_same : (f g : ℕ → ℕ → Bool) → Alike f g → noted_row capacity kinds nodes me f ≡ noted_row capacity kinds nodes me g
  row_same f g same = map_below (mask_at f) (mask_at g) capacity (λ j low.
      if_full (nat_lt j nodes && not (j == me)) (mask_of (ids_where (f j) kinds)) (mask_of (ids_where (g j) kinds)) 0
      (λ is. let o = other j is in same_masks (f j) (g j) kinds (λ e within. same j e low o.0 o.1 within)))

  -- a row tells what was noted
  pub row_tells : (f : ℕ → ℕ → Bool) → kinds ≤ 16 → Alike (accuses (noted_row capacity kinds nodes me f)) f
  row_tells f few j e low used ne within =
      let t : (nat_lt j nodes && not (j == me)) ≡ true = ap₂ (λ (a b : Bool). a && not b) (lt-ltb j nodes used) (ne_eqb j me ne) in
      ap (λ (mask : ℕ). bit_at mask e == 1) (tabulated capacity (mask_at f) j 0 low ∙ cond-true _ (mask_of (ids_where (f j) kinds)) 0 t)
      ∙ mask-has (f j) kinds e few within

  -- so it is the row of what it tells
  pub row_told : (f : ℕ → ℕ → Bool) → kinds ≤ 16 → noted_row capacity kinds nodes me f ≡ noted_row capacity kinds nodes me (accuses (noted_row capacity kinds nodes me f))
  row_told f few = row_same f (accuses (noted_row capacity kinds nodes me f)) (λ j e low used ne within. sym (row_tells f few j e low used ne within))

  -- the empty row says nothing
  no_mask : (j : ℕ) (b : Bool) → (if b then mask_of (ids_where (accuses (replicate capacity 0) j) kinds) else 0) ≡ 0
  no_mask j true = mask-zero (accuses (replicate capacity 0) j) kinds (λ e. accuses_none capacity j e)
  no_mask j false = refl

  pub empty_told : replicate capacity 0 ≡ noted_row capacity kinds nodes me (accuses (replicate capacity 0))
  empty_told = fill_by_all (mask_at (accuses (replicate capacity 0))) (replicate capacity 0) capacity 0 (length-replicate {A = ℕ} capacity 0)
      (λ j low. get_or-replicate capacity j 0 0 low ∙ sym (no_mask j (nat_lt j nodes && not (j == me))))

-- ---- notes

-- a row of this form is within
pub within_told : (capacity : ℕ) (n : Notes) → n.row ≡ noted_row capacity n.kinds n.nodes n.me (accuses n.row) → IsWithin capacity n
within_told capacity n told =
    ap (λ (row : List ℕ). record n { row = row })
    (row_same capacity n.kinds n.nodes n.me (λ j e. accuses n.row j e || false) (accuses n.row) (λ j e low used ne within. or_false (accuses n.row j e)) ∙ sym told)

pub noted_within : (capacity : ℕ) (n : Notes) (more : ℕ → ℕ → Bool) → n.kinds ≤ 16 → IsWithin capacity (also_noted capacity n more)
noted_within capacity n more few =
    noted_twice capacity n more (λ j e. false) few
    ∙ noted_alike capacity n (λ j e. more j e || false) more (λ j e low used ne within. or_false (more j e))

pub nothing_noted : (capacity : ℕ) (n : Notes) (more : ℕ → ℕ → Bool) → IsWithin capacity n → SaysNothing capacity n more → also_noted capacity n more ≡ n
nothing_noted capacity n more within none = noted_alike capacity n more (λ j e. false) none ∙ within

or_swap : (a b : Bool) → (a || b) ≡ (b || a)
or_swap true true = refl
or_swap true false = refl
or_swap false true = refl
or_swap false false = refl

pub noted_either_way : (capacity : ℕ) (n : Notes) (one other : ℕ → ℕ → Bool) → n.kinds ≤ 16
    → also_noted capacity (also_noted capacity n one) other ≡ also_noted capacity (also_noted capacity n other) one
noted_either_way capacity n one other few =
    noted_twice capacity n one other few
    ∙ noted_alike capacity n (λ j e. one j e || other j e) (λ j e. other j e || one j e) (λ j e low used ne within. or_swap (one j e) (other j e))
    ∙ sym (noted_twice capacity n other one few)

-- more besides what was noted is both
pub noted_more : (capacity : ℕ) (a b c : Notes) (one other : ℕ → ℕ → Bool) → a.kinds ≤ 16 → b ≡ also_noted capacity a one → c ≡ also_noted capacity b other
    → c ≡ also_noted capacity a (λ j e. one j e || other j e)
noted_more capacity a b c one other few first second = second ∙ ap (λ (n : Notes). also_noted capacity n other) first ∙ noted_twice capacity a one other few

-- ---- what is carried over

pub carried_noted : (capacity : ℕ) (n : Notes) (more : ℕ → ℕ → Bool) → IsCarriedWithin capacity n → IsCarriedWithin capacity (also_noted capacity n more)
carried_noted capacity n more within = ap (λ (row : List ℕ). record (also_noted capacity n more) { carried = row }) (ap (λ (y : Notes). y.carried) within)

pub carried_more : (capacity : ℕ) (n : Notes) (more : ℕ → ℕ → Bool) → n.kinds ≤ 16 → IsCarriedWithin capacity (also_carried capacity n more)
carried_more capacity n more few =
    ap (λ (row : List ℕ). record n { carried = row })
    (row_same capacity n.kinds n.nodes n.me (λ j e. accuses (noted_row capacity n.kinds n.nodes n.me (λ q d. accuses n.carried q d || more q d)) j e || false) (λ q d. accuses n.carried q d || more q d)
    (λ j e low used ne within. or_false (accuses (noted_row capacity n.kinds n.nodes n.me (λ q d. accuses n.carried q d || more q d)) j e) ∙ row_tells capacity n.kinds n.nodes n.me (λ q d. accuses n.carried q d || more q d) few j e low used ne within))

pub nothing_carried : (capacity : ℕ) (n : Notes) (more : ℕ → ℕ → Bool) → IsCarriedWithin capacity n → SaysNothing capacity n more → also_carried capacity n more ≡ n
nothing_carried capacity n more within none = carried_alike capacity n more (λ j e. false) none ∙ within

pub empty_carried : (capacity nodes me kinds : ℕ) (row : List ℕ) → IsCarriedWithin capacity (record { nodes = nodes; me = me; kinds = kinds; row = row; carried = replicate capacity 0 })
empty_carried capacity nodes me kinds row =
    ap (λ (xs : List ℕ). record { nodes = nodes; me = me; kinds = kinds; row = row; carried = xs })
    (row_same capacity kinds nodes me (λ j e. accuses (replicate capacity 0) j e || false) (accuses (replicate capacity 0)) (λ j e low used ne within. or_false (accuses (replicate capacity 0) j e))
    ∙ sym (empty_told capacity kinds nodes me))
