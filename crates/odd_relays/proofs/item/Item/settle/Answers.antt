use Rattle.std.proofs.Common.{ℕ, ◌≡◌, ◌≢◌, ◌<◌, ◌==◌, ◌||◌, true, false, List, [], sym, ap, ◌∙◌, inl, inr, arith, eq-eqb, eqb-true, refl}
use Rattle.std.proofs.lemmas.Bool.{cases_Bool, or_cases, or_left}
use Rattle.node_grid.specs.NodeSet.{has_id, with_id}
use Rattle.node_grid.specs.NodeSetLaws.{passes_where, has-with_id}
use Rattle.odd_relays.proofs.item.Item.settle.Goals as goal

-- a set of one node
has_alone : (n : ℕ) (empty alone : List ℕ) (i : ℕ) → i < n → alone ≡ with_id n empty i → has_id alone i ≡ true
has_alone n empty alone i low is = ap (λ (s : List ℕ). has_id s i) is ∙ has-with_id n empty i i low ∙ or_left (i == i) (has_id empty i) (eq-eqb i i refl)

only_alone : (n : ℕ) (empty alone : List ℕ) (c i : ℕ) → c ≢ i → empty ≡ [] → alone ≡ with_id n empty i → has_id alone c ≡ false
only_alone n empty alone c i ne none is = elim (cases_Bool (has_id alone c)) [
  | inr off ↦ off
  | inl on ↦ elim (or_cases (c == i) (has_id empty c) (passes_where (λ k. (k == i) || has_id empty k) n c (ap (λ (s : List ℕ). has_id s c) (sym is) ∙ on))) [
    | inl here ↦ absurd (ne (eqb-true c i here))
    | inr there ↦ let h = sym (ap (λ (s : List ℕ). has_id s c) none) ∙ there in absurd (cc)
  ]
]

pub settle_at-requires : goal.settle_at-requires
settle_at-requires g c =
    (omega arith, (omega arith, (c.requires.few, (only_alone g.row.N c.empty-alone.result c.put.new.self c.args.self.now.commander c.args.i c.requires.other c.empty-alone.ensures c.put.ensures, c.requires.room))))

pub value_at-requires : goal.value_at-requires
value_at-requires g c = omega (arith, c.settle_at.ensures.room, c.requires.node, c.args.self.now.fits)

pub returns-clause-settled : goal.returns-clause-settled
returns-clause-settled g c = c.value_at.ensures ∙ c.settle_at.ensures.settled c.args.i (has_alone g.row.N c.empty-alone.result c.put.new.self c.args.i c.requires.node c.put.ensures)
