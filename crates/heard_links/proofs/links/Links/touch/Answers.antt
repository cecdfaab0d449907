use Rattle.std.proofs.Common.{refl, Bool, false, ℕ, ◌≡◌, ◌≢◌, ◌<◌, ◌==◌, ◌||◌, List, [], true, length, sym, ap, ◌∙◌, inl, inr, arith, eq-eqb, ne_eqb, get_or, set, get_or-set_same, get_or-set_other, ◌⊎◌}
use Rattle.std.proofs.lemmas.Bool.{cases_eq, or_left}
use Rattle.std.proofs.lemmas.List.{get_or_default}
use Rattle.node_grid.specs.NodeSet.{has_id, with_id}
use Rattle.node_grid.specs.NodeSetLaws.{has-with_id}
use Rattle.heard_links.proofs.links.Links.touch.Goals as goal

-- the set of a round with one node more
put_here : (n : ℕ) (sets : List (List ℕ)) (r q : ℕ) (more : List ℕ) → r < length sets → q < n → more ≡ with_id n (get_or sets r []) q → has_id (get_or (set sets r more) r []) q ≡ true
put_here n sets r q more room low is =
    ap (λ (s : List ℕ). has_id s q) (get_or-set_same sets r more [] room ∙ is) ∙ has-with_id n (get_or sets r []) q q low ∙ or_left (q == q) _ (eq-eqb q q refl)

put_others : (n : ℕ) (sets : List (List ℕ)) (r q : ℕ) (more : List ℕ) → r < length sets → more ≡ with_id n (get_or sets r []) q → (s j : ℕ) → j < n → (s ≢ r) ⊎ (j ≢ q)
    → has_id (get_or (set sets r more) s []) j ≡ has_id (get_or sets s []) j
put_others n sets r q more room is s j low ne = elim (cases_eq s r) [
  | inl e ↦ elim ne [
    | inl other ↦ absurd (other e)
    | inr apart ↦
        ap (λ (k : ℕ). has_id (get_or (set sets r more) k []) j) e
        ∙ ap (λ (those : List ℕ). has_id those j) (get_or-set_same sets r more [] room ∙ is)
        ∙ has-with_id n (get_or sets r []) q j low ∙ or_else (j == q) (has_id (get_or sets r []) j) (ne_eqb j q apart)
        ∙ ap (λ (k : ℕ). has_id (get_or sets k []) j) (sym e)
  ]
  | inr other ↦ ap (λ (those : List ℕ). has_id those j) (get_or-set_other sets r s more [] other)
] where
  or_else : (a b : Bool) → a ≡ false → (a || b) ≡ b
  or_else a b off = ap (λ (h : Bool). h || b) off

pub returns-clause-here : goal.returns-clause-here
returns-clause-here g c =
    let room : c.args.round < length c.args.self.now.touched = omega (arith, c.requires.round) in
    put_here g.row.N c.args.self.now.touched c.args.round c.args.from c.put.new.self room c.requires.from
    (c.put.ensures ∙ ap (λ (those : List ℕ). with_id g.row.N those c.args.from) (get_or_default c.args.self.now.touched c.args.round c.index-self-round.result [] room))

pub returns-clause-others : goal.returns-clause-others
returns-clause-others g c =
    let room : c.args.round < length c.args.self.now.touched = omega (arith, c.requires.round) in
    put_others g.row.N c.args.self.now.touched c.args.round c.args.from c.put.new.self room
    (c.put.ensures ∙ ap (λ (those : List ℕ). with_id g.row.N those c.args.from) (get_or_default c.args.self.now.touched c.args.round c.index-self-round.result [] room))
