-- A world in which an item is passed on settles it as the world that is made of what is passed on does.
use Rattle.std.proofs.Common.{ℕ, ◌≡◌, ◌≢◌, ◌+◌, ◌-◌, ◌==◌, ◌||◌, Bool, true, false, List, [], ◌∷◌, ◌++◌, reverse, refl, sym, ap, subst, ◌∙◌, inl, inr, arith, eqb-true, eq-eqb, ne_eqb}
use Rattle.std.specs.Prelude.{Option, if◌then◌else◌}
use Rattle.std.proofs.lemmas.Bool.{cases_Bool, cond-true, cond-false, or_cases, both_ways}
use Rattle.std.proofs.lemmas.List.{length_push, reverse-append, reverse-reverse}
use Rattle.node_grid.specs.NodeSet.{has_id}
use Rattle.node_grid.specs.Count.{Distinct}
use Rattle.node_grid.specs.ListLaws.{has_push}
use Rattle.omh_paths.specs.declared.wrapped.Wrapped.{Wrapped}
use Rattle.omh_paths.specs.declared.wrapped.Wrapped.TheVariants.{Fault}
use Rattle.omh_paths.specs.Wrapped.{wrapped}
use Rattle.omh_paths.specs.Paths.{IsPath}
use Rattle.omh_paths.specs.PathLaws.{off_longer, off_from, IsPath-push}
use Rattle.omh.specs.Omh.{Ear, World, ear, own_term, settled, settled_within}
use Rattle.omh.specs.HeardLaws.{settled_alike}
use Rattle.settled_paths.specs.Passing.{or_passed, passed, passing_world}
use Rattle.settled_paths.specs.Laws.{IsPassedOn, PassingLaw}
use Rattle.settled_paths.proofs.Passes.{passed_push}

distinct_front : (xs : List ℕ) (q : ℕ) → Distinct (xs ++ q ∷ []) → (Distinct xs) × (has_id xs q ≡ false)
distinct_front [] q d = (tt, refl)
distinct_front (x ∷ xs) q d =
    let off = off_longer xs q x d.0 in
    let rest = distinct_front xs q d.1 in
    let ne : x ≢ q = λ e. off.1 (sym e) in
    ((off.0, rest.0), ap (λ (b : Bool). b || has_id xs q) (ne_eqb x q ne) ∙ rest.1)

-- a path without its last node
record IsFront (members : List ℕ) (rounds : ℕ) (path : List ℕ) (q : ℕ) : Type 0 where
  real : IsPath members rounds path
  member : has_id members q ≡ true
  off : has_id path q ≡ false

front_of : (members : List ℕ) (rounds : ℕ) (path : List ℕ) (q : ℕ) → IsPath members rounds (path ++ q ∷ []) → IsFront members rounds path q
front_of members rounds path q p =
    let d = distinct_front path q p.distinct in
    record {
      real = record {
        distinct = d.0;
        within = λ x on. p.within x (has_push path q x ∙ ap (λ (b : Bool). b || (q == x)) on);
        short = let s = p.short in omega (arith, length_push path q);
      };
      member = p.within q (has_push path q q ∙ ap (λ (b : Bool). b || (q == q)) d.1 ∙ eq-eqb q q refl);
      off = d.1;
    }

alone : (c i : ℕ) → has_id (c ∷ []) i ≡ false → c ≢ i
alone c i off e = both_ways _ off (ap (λ (b : Bool). b || false) (eq-eqb c i e))

module _ {V : Type 0} (w : World V) (is_awake : ℕ → Bool) (c : ℕ) (full : List ℕ) (own : Wrapped V) (says : ℕ → List ℕ → Option (Wrapped V)) (passes_on : IsPassedOn w is_awake c full own says) where
  made : World V
  made = passing_world w.rounds w.members full own says

  -- what a relay passes on, where what it heard is known
  relay_term : (q : ℕ) (rest : List ℕ) → IsFront w.members w.rounds (c ∷ reverse rest) q → (is_awake q ≡ true → w.heard q (c ∷ reverse rest) ≡ or_passed (says q (c ∷ reverse rest)) (passed full own says (c ∷ reverse rest)))
      → own_term (ear w q) (c ∷ reverse rest) ≡ (if has_id full q then wrapped (or_passed (says q (c ∷ reverse rest)) (passed full own says (c ∷ reverse rest))) else Fault 0)
  relay_term q rest f heard =
      let same : w.is_full q ≡ has_id full q = passes_on.full_are q (inl f.member) in
      ap (λ (b : Bool). if b then wrapped (w.heard q (c ∷ reverse rest)) else Fault 0) same
      ∙ elim (cases_Bool (has_id full q)) [
        | inl y ↦
            cond-true (has_id full q) (wrapped (w.heard q (c ∷ reverse rest))) (Fault 0) y
            ∙ ap wrapped (heard (passes_on.awake q f.member (same ∙ y)))
            ∙ sym (cond-true (has_id full q) (wrapped (or_passed (says q (c ∷ reverse rest)) (passed full own says (c ∷ reverse rest)))) (Fault 0) y)
        | inr n ↦
            cond-false (has_id full q) (wrapped (w.heard q (c ∷ reverse rest))) (Fault 0) n
            ∙ sym (cond-false (has_id full q) (wrapped (or_passed (says q (c ∷ reverse rest)) (passed full own says (c ∷ reverse rest)))) (Fault 0) n)
      ]

  -- what each awake node heard, by induction on the relays behind the commander, the last one first
  heard_back : (back : List ℕ) (i : ℕ) → is_awake i ≡ true → IsPath w.members w.rounds (c ∷ reverse back) → has_id (c ∷ reverse back) i ≡ false
      → w.heard i (c ∷ reverse back) ≡ or_passed (says i (c ∷ reverse back)) (passed full own says (c ∷ reverse back))
  heard_back [] i awake path off = passes_on.told i awake (alone c i off)
  heard_back (q ∷ rest) i awake path off =
      let turned : reverse (q ∷ rest) ≡ reverse rest ++ q ∷ [] = reverse-append (q ∷ []) rest in
      let real : IsPath w.members w.rounds (c ∷ (reverse rest ++ q ∷ [])) = subst (λ (b : List ℕ). IsPath w.members w.rounds (c ∷ b)) turned path in
      let free : has_id (c ∷ (reverse rest ++ q ∷ [])) i ≡ false = ap (λ (b : List ℕ). has_id (c ∷ b) i) (sym turned) ∙ off in
      let f = front_of w.members w.rounds (c ∷ reverse rest) q real in
      ap (λ (b : List ℕ). w.heard i (c ∷ b)) turned
      ∙ passes_on.relays (reverse rest) q i real awake free
      ∙ ap (or_passed (says i (c ∷ (reverse rest ++ q ∷ [])))) (relay_term q rest f (λ awake'. heard_back rest q awake' f.real f.off) ∙ sym (passed_push full own says (c ∷ reverse rest) q (omega arith)))
      ∙ ap (λ (b : List ℕ). or_passed (says i (c ∷ b)) (passed full own says (c ∷ b))) (sym turned)

  -- a path behind the commander for which a node hears something
  record IsBehind (i : ℕ) (path : List ℕ) : Type 0 where
    behind : List ℕ
    is : path ≡ c ∷ behind
    real : IsPath w.members w.rounds path
    off : has_id path i ≡ false

  heard_same : (i : ℕ) → is_awake i ≡ true → (path : List ℕ) → IsBehind i path → w.heard i path ≡ made.heard i path
  unfolding made
  heard_same i awake path b =
      let turned : path ≡ c ∷ reverse (reverse b.behind) = b.is ∙ ap (λ (ns : List ℕ). c ∷ ns) (sym (reverse-reverse b.behind)) in
      ap (w.heard i) turned
      ∙ heard_back (reverse b.behind) i awake (subst (IsPath w.members w.rounds) turned b.real) (ap (λ (ns : List ℕ). has_id ns i) (sym turned) ∙ b.off)
      ∙ ap (λ (ns : List ℕ). or_passed (says i ns) (passed full own says ns)) (sym turned)

  pub settled_same : (eq : V → V → Bool) (i : ℕ) → has_id w.members c ≡ true → is_awake i ≡ true → c ≢ i → settled eq w i (c ∷ []) ≡ settled eq (passing_world w.rounds w.members full own says) i (c ∷ [])
  unfolding made
  settled_same eq i member awake ne =
      let x : Ear V = ear w i in
      settled_alike eq x (made.heard i) (IsBehind i)
      (record {
        next = λ p q b on off other room. record {
          behind = b.behind ++ q ∷ [];
          is = ap (λ (ns : List ℕ). ns ++ q ∷ []) b.is;
          real = IsPath-push q b.real on off room;
          off = off_from p q i b.off other;
        };
      })
      (heard_same i awake) (w.rounds + 1 - 1) (c ∷ [])
      (record {
        behind = [];
        is = refl;
        real = record {
          distinct = (refl, tt);
          within = λ q h. elim (or_cases (c == q) false h) [
            | inl here ↦ ap (has_id w.members) (sym (eqb-true c q here)) ∙ member
            | inr none ↦ absurd (cc)
          ];
          short = omega arith;
        };
        off = ap (λ (b : Bool). b || false) (ne_eqb c i ne);
      })
      (omega arith)
      ∙ ap (λ (b : Bool). settled_within eq (record { rounds = w.rounds; members = w.members; me = i; full = b; heard = made.heard i }) (w.rounds + 1 - 1) (c ∷ [])) (passes_on.full_are i (inr awake))

pub passing_law : {V : Type 0} (eq : V → V → Bool) → PassingLaw eq
passing_law eq w is_awake c full own says passes_on member i awake ne = settled_same w is_awake c full own says passes_on eq i member awake ne
