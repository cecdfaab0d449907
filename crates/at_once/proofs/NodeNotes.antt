-- Notes of all nodes, of which some note more.
use Rattle.std.proofs.Common.{ℕ, ◌≡◌, ◌≢◌, ◌<◌, ◌≤◌, ◌+◌, ◌==◌, ◌&&◌, Bool, true, false, if◌then◌else◌, List, length, length-set, set, get_or-set_other, get_or-set_same, refl, sym, ap, ◌∙◌, inl, inr, arith, ne_eqb, eq-eqb}
use Rattle.std.proofs.lemmas.Bool.{cases_eq, cond-true, cond-false, cases_Bool}
use Rattle.node_grid.specs.NodeSet.{has_id}
use Rattle.node_grid.specs.Kinds.{equivocate}
use Rattle.node_grid.specs.TruthFacts.{and_no_right}
use Rattle.error_reports.specs.Notes.{Notes, of_each, also_noted, also_carried}
use Rattle.error_reports.specs.NoteLaws.{noted_alike, carried_alike}
use Rattle.omh.specs.Omh.{Ear}
use Rattle.protocol.specs.FurtherKinds.{convicts_member}
use Rattle.view_law.specs.Laws.{IsWithin, IsCarriedWithin}
use Rattle.view_law.proofs.Rows.{nothing_noted, nothing_carried}
use Rattle.item_phase.specs.Noted.{IsNoter}
use Rattle.agreed_state.specs.declared.config.Config.{Config}
use Rattle.at_once.specs.Kept.{notes_at, AreShaped}
use Rattle.at_once.specs.Phases.{blames}

-- of the nodes below i those of the set have made this step
pub record AreMore (n : ℕ) (nodes : List ℕ) (step : ℕ → Notes → Notes) (old : List Notes) (i : ℕ) (xs : List Notes) : Type 0 where
  pub wide : length xs ≡ n
  pub so_far : (j : ℕ) → j < i → notes_at xs j ≡ (if has_id nodes j then step j (notes_at old j) else notes_at old j)
  pub rest : (j : ℕ) → i ≤ j → notes_at xs j ≡ notes_at old j

module _ (n : ℕ) (nodes : List ℕ) (step : ℕ → Notes → Notes) (old : List Notes) where
  pub more_none : length old ≡ n → AreMore n nodes step old 0 old
  more_none many = record { wide = many; so_far = λ j low. absurd (omega arith); rest = λ j high. refl }

  pub more_put : (i : ℕ) (xs : List Notes) (y : Notes) → i < n → has_id nodes i ≡ true → AreMore n nodes step old i xs → y ≡ step i (notes_at xs i) → AreMore n nodes step old (i + 1) (set xs i y)
  more_put i xs y low on m is = record {
    wide = length-set xs i y ∙ m.wide;
    so_far = λ j less. elim (cases_eq j i) [
      | inl e ↦
          let room : i < length xs = (let w = m.wide in omega arith) in
          ap (notes_at (set xs i y)) e ∙ get_or-set_same xs i y _ room ∙ is ∙ ap (step i) (m.rest i (omega arith))
          ∙ sym (ap (λ (k : ℕ). if has_id nodes k then step k (notes_at old k) else notes_at old k) e ∙ cond-true (has_id nodes i) (step i (notes_at old i)) (notes_at old i) on)
      | inr ne ↦ get_or-set_other xs i j y _ ne ∙ m.so_far j (omega arith)
    ];
    rest = λ j high. let ne : j ≢ i = omega arith in get_or-set_other xs i j y _ ne ∙ m.rest j (omega arith);
  }

  pub more_skip : (i : ℕ) (xs : List Notes) → has_id nodes i ≡ false → AreMore n nodes step old i xs → AreMore n nodes step old (i + 1) xs
  more_skip i xs off m = record {
    wide = m.wide;
    so_far = λ j less. elim (cases_eq j i) [
      | inl e ↦
          ap (notes_at xs) e ∙ m.rest i (omega arith)
          ∙ sym (ap (λ (k : ℕ). if has_id nodes k then step k (notes_at old k) else notes_at old k) e ∙ cond-false (has_id nodes i) (step i (notes_at old i)) (notes_at old i) off)
      | inr ne ↦ m.so_far j (omega arith)
    ];
    rest = λ j high. m.rest j (omega arith);
  }

-- ---- kinds

pub noter : {N : ℕ} (config : Config N) (notes : List Notes) (i : ℕ) → i < config.nodes → AreShaped {N = N} config notes → IsWithin N (notes_at notes i) → IsNoter config i (notes_at notes i)
noter config notes i low shaped within = record {
  nodes = shaped.nodes i low;
  me = shaped.me i low;
  kinds = shaped.kinds i low;
  within = within;
}

-- ---- convictions

-- a row of version 1 has no room for them
pub no_room : {V : Type 0} (eq : V → V → Bool) (ear : Ear V) (j e : ℕ) → e < 8 → blames eq ear j e ≡ false
no_room eq ear j e low = and_no_right (convicts_member eq ear j) (e == equivocate) (ne_eqb e equivocate (λ h. omega arith))

and_same : (a b c : Bool) → a ≡ b → (a && c) ≡ (b && c)
and_same a b c e = ap (λ (x : Bool). x && c) e

pub blamed_same : {V : Type 0} (capacity : ℕ) (n : Notes) (eq : V → V → Bool) (ear : Ear V) (set : List ℕ) → ((c : ℕ) → c ≢ n.me → has_id set c ≡ convicts_member eq ear c)
    → also_noted capacity n (of_each set equivocate) ≡ also_noted capacity n (blames eq ear)
blamed_same capacity n eq ear set same =
    noted_alike capacity n (of_each set equivocate) (blames eq ear) (λ j e low used other within. and_same (has_id set j) (convicts_member eq ear j) (e == equivocate) (same j other))

pub carried_same : {V : Type 0} (capacity : ℕ) (n : Notes) (eq : V → V → Bool) (ear : Ear V) (set : List ℕ) → ((c : ℕ) → c ≢ n.me → has_id set c ≡ convicts_member eq ear c)
    → also_carried capacity n (of_each set equivocate) ≡ also_carried capacity n (blames eq ear)
carried_same capacity n eq ear set same =
    carried_alike capacity n (of_each set equivocate) (blames eq ear) (λ j e low used other within. and_same (has_id set j) (convicts_member eq ear j) (e == equivocate) (same j other))

pub none_blamed : {V : Type 0} (capacity : ℕ) (n : Notes) (eq : V → V → Bool) (ear : Ear V) → IsWithin capacity n → n.kinds ≡ 8 → also_noted capacity n (blames eq ear) ≡ n
none_blamed capacity n eq ear within eight = nothing_noted capacity n (blames eq ear) within (λ j e low used other kind. no_room eq ear j e (omega arith))

pub none_late : {V : Type 0} (capacity : ℕ) (n : Notes) (eq : V → V → Bool) (ear : Ear V) → IsCarriedWithin capacity n → n.kinds ≡ 8 → also_carried capacity n (blames eq ear) ≡ n
none_late capacity n eq ear within eight = nothing_carried capacity n (blames eq ear) within (λ j e low used other kind. no_room eq ear j e (omega arith))

-- so in version 1 all notes stay as they are
pub unconvicted : {V : Type 0} {N : ℕ} (config : Config N) (notes : List Notes) (i : ℕ) (nodes : List ℕ) (eq : V → V → Bool) (ear : Ear V) → AreShaped {N = N} config notes → config.version ≡ 1
    → (has_id nodes i ≡ true → i < config.nodes) → (has_id nodes i ≡ true → IsWithin N (notes_at notes i))
    → notes_at notes i ≡ (if has_id nodes i then also_noted N (notes_at notes i) (blames eq ear) else notes_at notes i)
unconvicted {V} {N} config notes i nodes eq ear shaped one used within = elim (cases_Bool (has_id nodes i)) [
  | inl on ↦
      sym (cond-true (has_id nodes i) (also_noted N (notes_at notes i) (blames eq ear)) (notes_at notes i) on
      ∙ none_blamed N (notes_at notes i) eq ear (within on) (shaped.kinds i (used on) ∙ cond-true (config.version == 1) 8 16 (eq-eqb config.version 1 one)))
  | inr off ↦ sym (cond-false (has_id nodes i) (also_noted N (notes_at notes i) (blames eq ear)) (notes_at notes i) off)
]
