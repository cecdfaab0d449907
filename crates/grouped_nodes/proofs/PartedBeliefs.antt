-- Beliefs of groups that are parted.
use Rattle.std.proofs.Common.{ℕ, ◌≡◌, ◌≢◌, ◌<◌, ◌≤◌, ◌+◌, List, length, length-set, set, get_or, get_or-set_other, get_or-set_same, refl, sym, ap, ◌∙◌, inl, inr, arith}
use Rattle.std.proofs.lemmas.Bool.{cases_eq}
use Rattle.node_grid.specs.ListFacts.{same_at}
use Rattle.shared_states.specs.declared.belief.Belief.{Belief}
use Rattle.grouped_nodes.specs.Grouping.{first_of, AreFirsts}
use Rattle.grouped_nodes.specs.Shared.{belief_of}

-- the firsts below i have what stood at the firsts before
pub record AreParted {N : ℕ} (before groups : List ℕ) (old : List (Belief N)) (i : ℕ) (bs : List (Belief N)) : Type 0 where
  pub wide : length bs ≡ N
  pub moved : (j : ℕ) (d : Belief N) → j < i → j < N → first_of groups j ≡ j → get_or bs j d ≡ get_or old (first_of before j) d
  pub kept : (j : ℕ) (d : Belief N) → first_of before j ≡ j → get_or bs j d ≡ get_or old j d
  pub later : (j : ℕ) (d : Belief N) → i ≤ j → get_or bs j d ≡ get_or old j d

module _ {N : ℕ} (before groups : List ℕ) (old : List (Belief N)) where
  pub parted_none : length old ≡ N → AreParted before groups old 0 old
  parted_none many = record { wide = many; moved = λ j d less. absurd (omega arith); kept = λ j d own. refl; later = λ j d high. refl }

  pub parted_skip : (i : ℕ) (bs : List (Belief N)) → (first_of groups i ≡ i → first_of before i ≡ i) → AreParted before groups old i bs → AreParted before groups old (i + 1) bs
  parted_skip i bs stays m = record {
    wide = m.wide;
    moved = λ j d less low own. elim (cases_eq j i) [
      | inl e ↦
          let same : first_of before j ≡ j = ap (first_of before) e ∙ stays (ap (first_of groups) (sym e) ∙ own ∙ e) ∙ sym e in
          m.later j d (omega arith) ∙ ap (λ (k : ℕ). get_or old k d) (sym same)
      | inr ne ↦ m.moved j d (omega arith) low own
    ];
    kept = m.kept;
    later = λ j d high. m.later j d (omega arith);
  }

  pub parted_put : (i : ℕ) (bs : List (Belief N)) (b d : Belief N) → i < N → first_of before i ≢ i → first_of before i < N → first_of before (first_of before i) ≡ first_of before i
      → AreParted before groups old i bs → b ≡ get_or bs (first_of before i) d → AreParted before groups old (i + 1) (set bs i b)
  parted_put i bs b d low parts within own m is = record {
    wide = length-set bs i b ∙ m.wide;
    moved = λ j e less low_j own_j. elim (cases_eq j i) [
      | inl same ↦
          ap (λ (k : ℕ). get_or (set bs i b) k e) same ∙ get_or-set_same bs i b e (let w = m.wide in omega arith)
          ∙ is ∙ same_at bs (first_of before i) d e (let w = m.wide in omega arith) ∙ m.kept (first_of before i) e own
          ∙ ap (λ (k : ℕ). get_or old (first_of before k) e) (sym same)
      | inr ne ↦ get_or-set_other bs i j b e ne ∙ m.moved j e (omega arith) low_j own_j
    ];
    kept = λ j e own_j. let ne : j ≢ i = λ same. parts (ap (first_of before) (sym same) ∙ own_j ∙ same) in get_or-set_other bs i j b e ne ∙ m.kept j e own_j;
    later = λ j e high. let ne : j ≢ i = omega arith in get_or-set_other bs i j b e ne ∙ m.later j e (omega arith);
  }

  pub parted_all : AreFirsts N groups → ((i : ℕ) → i < N → first_of before (first_of groups i) ≡ first_of before i) → (n : ℕ) (bs : List (Belief N)) → N ≤ n → AreParted before groups old n bs
      → (i : ℕ) (d : Belief N) → i < N → belief_of d bs groups i ≡ belief_of d old before i
  parted_all firsts parted n bs end m i d low =
      let e = firsts.early i low in
      let less : first_of groups i < N = omega arith in
      let soon : first_of groups i < n = omega arith in
      m.moved (first_of groups i) d soon less (firsts.own i low) ∙ ap (λ (k : ℕ). get_or old k d) (parted i low)
