-- What a node settles by two accounts of what it heard that agree on the paths that are asked for.
use Rattle.std.proofs.Common.{ℕ, ◌≡◌, ◌≢◌, ◌<◌, ◌≤◌, ◌+◌, ◌-◌, ◌==◌, ◌&&◌, Bool, true, false, List, [], ◌∷◌, length, refl, sym, ap, ◌∙◌, inl, inr, arith, eqb-true}
use Rattle.std.proofs.lemmas.Bool.{cases_lt, or_cases, or_parts, eqb-false, both_ways}
use Rattle.node_grid.specs.NodeSet.{has_id}
use Rattle.omh_paths.specs.declared.wrapped.Wrapped.{Wrapped}
use Rattle.omh_paths.specs.PathLists.{has-at}
use Rattle.omh.specs.Omh.{Ear, settled_at}
use Rattle.omh.specs.Written.{last_node}
use Rattle.omh.specs.HeardLaws.{IsHeardPath, IsHeardPath-root, settled_as}
use Rattle.equivocation.specs.Conviction.{convicts, relays_of}
use Rattle.equivocation.specs.ConvictionLaws.{convicts_alike, unrelayed}

pub one_within : (members : List ℕ) (c q : ℕ) → has_id members c ≡ true → has_id (c ∷ []) q ≡ true → has_id members q ≡ true
one_within members c q on h = elim (or_cases (c == q) false h) [
  | inl here ↦ ap (has_id members) (sym (eqb-true c q here)) ∙ on
  | inr none ↦ absurd (cc)
]

pub two_within : (members : List ℕ) (c b q : ℕ) → has_id members c ≡ true → has_id members b ≡ true → has_id (c ∷ b ∷ []) q ≡ true → has_id members q ≡ true
two_within members c b q on also h = elim (or_cases (c == q) (has_id (b ∷ []) q) h) [
  | inl here ↦ ap (has_id members) (sym (eqb-true c q here)) ∙ on
  | inr later ↦ one_within members b q also later
]

-- a path of its members, short enough, that ends in another node
pub record IsAskedFor (members : List ℕ) (me rounds : ℕ) (path : List ℕ) : Type 0 where
  pub within : (q : ℕ) → has_id path q ≡ true → has_id members q ≡ true
  pub short : length path ≤ rounds + 1
  pub other : me ≢ last_node path

module _ {V : Type 0} (eq : V → V → Bool) (m : ℕ) (members : List ℕ) (i : ℕ) (full : Bool) (f g : List ℕ → Wrapped V) (same : (path : List ℕ) → IsAskedFor members i m path → f path ≡ g path) where
  abbrev one : Ear V
  one = record { rounds = m; members = members; me = i; full = full; heard = f }

  abbrev other : Ear V
  other = record { rounds = m; members = members; me = i; full = full; heard = g }

  of_path : (path : List ℕ) → IsHeardPath members i m path → IsAskedFor members i m path
  of_path path real = record {
    within = real.within;
    short = real.short;
    other = λ e. both_ways _ real.other (ap (has_id path) e ∙ has-at path (length path - 1) 0 (omega (arith, real.some)));
  }

  pub settled_same : (c : ℕ) → has_id members c ≡ true → c ≢ i → settled_at eq one (c ∷ []) ≡ settled_at eq other (c ∷ [])
  settled_same c member ne = settled_as eq one g (λ path real. same path (of_path path real)) (c ∷ []) (IsHeardPath-root m c member ne)

  relay_same : 0 < m → (c : ℕ) → has_id members c ≡ true → (q : ℕ) → has_id members q ≡ true → has_id (c ∷ i ∷ []) q ≡ false → f (c ∷ q ∷ []) ≡ g (c ∷ q ∷ [])
  relay_same some c member q at off =
      let p = or_parts (c == q) (has_id (i ∷ []) q) off in
      let r = or_parts (i == q) false p.1 in
      same (c ∷ q ∷ []) (record { within = λ k h. two_within members c q k member at h; short = omega (arith, some); other = eqb-false i q r.0 })

  pub convicted_same : (c : ℕ) → has_id members c ≡ true → c ≢ i → convicts eq one c ≡ convicts eq other c
  convicted_same c member ne = elim (cases_lt 0 m) [
    | inl some ↦
        convicts_alike eq one other c refl refl refl refl (same (c ∷ []) (of_path (c ∷ []) (IsHeardPath-root m c member ne))) (λ q at off. relay_same some c member q at off)
    | inr none ↦
        unrelayed eq (f (c ∷ [])) (relays_of one c) (full && has_id members i) m (omega (arith, none))
        ∙ sym (unrelayed eq (g (c ∷ [])) (relays_of other c) (full && has_id members i) m (omega (arith, none)))
  ]
