-- The item laws, and the views law.
use Rattle.std.proofs.Common.{ℕ, zero, suc, ◌≡◌, ◌+◌, ◌==◌, ◌&&◌, Bool, true, false, not, List, [], ◌∷◌, ◌++◌, length, refl, sym, ap, subst, ◌∙◌, inl, inr, arith, eqb-true, eq-eqb, ne_eqb, ap₂, ◌<◌, ◌≢◌}
use Rattle.std.specs.Prelude.{slice_index_or, if◌then◌else◌}
use Rattle.std.proofs.lemmas.Bool.{both_ways, cases_Bool, cond-true, cond-false, and_parts, or_cases, or_from, or_parts, eqb-false, cases_lt}
use Rattle.std.proofs.lemmas.List.{length_push}
use Rattle.node_grid.specs.NodeSet.{has_id}
use Rattle.node_grid.specs.Count.{Distinct}
use Rattle.node_grid.specs.ListLaws.{has_push}
use Rattle.node_grid.specs.SetFacts.{count_members}
use Rattle.omh_paths.specs.declared.wrapped.Wrapped.{Wrapped}
use Rattle.omh_paths.specs.declared.wrapped.Wrapped.TheVariants.{Fault}
use Rattle.omh_paths.specs.Wrapped.{wrapped, unwrapped, IsExact}
use Rattle.omh_paths.specs.Majority.{majority}
use Rattle.omh_paths.specs.Paths.{outside, IsPath}
use Rattle.omh_paths.specs.PathLaws.{map_alike, all_outside, IsPath-push, off_from, off_longer}
use Rattle.omh_paths.specs.Facts.{root}
use Rattle.omh.specs.Omh.{World, ear, own_term, settled}
use Rattle.odd_relays.specs.Laws.{ViewsLaw}
use Rattle.odd_relays.specs.Chains.{IsPassedOn, relays_nothing, AreFew, chain_within, AreOdd}
use Rattle.odd_relays.specs.Telling.{Telling, telling_world, settled_item, convicts_commander, HasFewOdd}
use Rattle.odd_relays.specs.Direct.{direct_world}
use Rattle.odd_relays.specs.ItemLaws.{IsTellingOf, ItemLaw, ItemConvictsLaw}
use Rattle.equivocation.specs.Conviction.{is_convicted, relays_of, convicts}
use Rattle.equivocation.specs.ConvictionLaws.{unrelayed}
use Rattle.odd_relays.proofs.ChainLaws.{chain_term, chain_now, chain_later, chain_base, chain_odd, chain_law, no_more}
use Rattle.odd_relays.proofs.Direct.{direct_settles}

-- odd nodes and one more
odd_push : (odd back : List ℕ) (q : ℕ) → AreOdd odd back → has_id odd q ≡ true → AreOdd odd (back ++ q ∷ [])
odd_push odd back q odds on x h = elim (or_cases (has_id back x) (q == x) (sym (has_push back q x) ∙ h)) [
  | inl was ↦ odds x was
  | inr here ↦ ap (has_id odd) (sym (eqb-true q x here)) ∙ on
]

no_odd : (odd : List ℕ) → AreOdd odd []
no_odd odd x h = absurd (cc)

-- a world with the rounds and members of a telling
abbrev world_with : {V : Type 0} → Telling V → (ℕ → Bool) → (ℕ → List ℕ → Wrapped V) → World V
world_with t is_full heard = record { rounds = t.rounds; members = t.members; is_full = is_full; heard = heard }

module _ {V : Type 0} (eq : V → V → Bool) (t : Telling V) (is_full : ℕ → Bool) (heard : ℕ → List ℕ → Wrapped V) (is_awake : ℕ → Bool)
    (passed : IsPassedOn (world_with t is_full heard) t.commander t.odd is_awake) (item : IsTellingOf (world_with t is_full heard) is_awake t) where
  abbrev w : World V
  w = world_with t is_full heard

  abbrev direct : World V
  direct = direct_world t

  -- both have this for the path
  abbrev AreSame : List ℕ → Type 0
  AreSame path = (k : ℕ) → is_awake k ≡ true → has_id path k ≡ false → heard k path ≡ direct.heard k path

  same_root : AreSame (t.commander ∷ [])
  same_root k ak off = item.told_are k ak (off_longer [] t.commander k off).1

  same_push : (back : List ℕ) (q : ℕ) → IsPath t.members t.rounds (t.commander ∷ (back ++ q ∷ [])) → AreOdd t.odd (back ++ q ∷ []) → AreSame (t.commander ∷ (back ++ q ∷ []))
  same_push back q path odds k ak off =
      let p : List ℕ = t.commander ∷ (back ++ q ∷ []) in
      item.says_are back q k path odds ak off
      ∙ sym (cond-false (length p == 1) (slice_index_or t.told k (Fault 0)) (t.says k p) (ne_eqb (length p) 1 (λ e. omega (arith, length_push back q))))

  same_own : (q : ℕ) (path : List ℕ) → has_id t.members q ≡ true → has_id path q ≡ false → AreSame path → own_term (ear w q) path ≡ own_term (ear direct q) path
  same_own q path on off same = elim (cases_Bool (is_full q)) [
    | inl f ↦
        cond-true (is_full q) _ _ f ∙ ap wrapped (same q (passed.full q on f) off)
        ∙ sym (cond-true (has_id t.full q) (wrapped (direct.heard q path)) (Fault 0) (sym (item.full_are q on) ∙ f))
    | inr n ↦ cond-false (is_full q) _ _ n ∙ sym (cond-false (has_id t.full q) (wrapped (direct.heard q path)) (Fault 0) (sym (item.full_are q on) ∙ n))
  ]

  same_chain : (i : ℕ) → is_awake i ≡ true → (r : ℕ) (back : List ℕ) → IsPath t.members t.rounds (t.commander ∷ back) → r + length (t.commander ∷ back) ≡ t.rounds + 1 → has_id (t.commander ∷ back) i ≡ false
      → AreOdd t.odd back → AreSame (t.commander ∷ back)
      → chain_within eq w t.odd i r (t.commander ∷ back) ≡ chain_within eq direct t.odd i r (t.commander ∷ back)
  same_chain i awake zero back path long off odds same = chain_now eq w t.odd i (t.commander ∷ back) ∙ same i awake off ∙ sym (chain_now eq direct t.odd i (t.commander ∷ back))
  same_chain i awake (suc r) back path long off odds same =
      let p : List ℕ = t.commander ∷ back in
      let at : (q : ℕ) → has_id t.members q ≡ true → has_id p q ≡ false → chain_term eq w t.odd r i p q ≡ chain_term eq direct t.odd r i p q =
      λ q member away. elim (cases_Bool (has_id t.odd q && not (q == i))) [
        | inl on ↦
            let parts = and_parts (has_id t.odd q) (not (q == i)) on in
            let grown : IsPath t.members t.rounds (t.commander ∷ (back ++ q ∷ [])) = IsPath-push q path member away (omega arith) in
            let more = odd_push t.odd back q odds parts.0 in
            chain_odd eq w t.odd r i p q on
            ∙ same_chain i awake r (back ++ q ∷ []) grown (omega (arith, length_push back q)) (off_from p q i off (λ e. apart q i e parts.1)) more (same_push back q grown more)
            ∙ sym (chain_odd eq direct t.odd r i p q on)
        | inr base ↦ chain_base eq w t.odd r i p q base ∙ same_own q p member away same ∙ sym (chain_base eq direct t.odd r i p q base)
      ]
      in
      chain_later eq w t.odd r i p
      ∙ ap (λ (ts : List (Wrapped V)). unwrapped (majority eq ts)) (map_alike (chain_term eq w t.odd r i p) (chain_term eq direct t.odd r i p) (outside t.members p) (all_outside t.members p _ at))
      ∙ sym (chain_later eq direct t.odd r i p)
    where
      apart : (q i : ℕ) → q ≡ i → not (q == i) ≡ true → ⊥
      apart q i e h = let f : false ≡ true = sym (ap not (eq-eqb q i e)) ∙ h in cc

  settles : IsExact eq → HasFewOdd t → has_id t.members t.commander ≡ true → (i : ℕ) → is_awake i ≡ true → t.commander ≢ i → settled eq w i (t.commander ∷ []) ≡ settled_item eq t i
  settles exact few member i awake ne =
      let c : ℕ = t.commander in
      let idle = count_members (λ q. relays_nothing w t.odd q) (λ q. not (has_id t.odd q) && not (has_id t.full q)) t.members (λ q on. ap (λ (b : Bool). not (has_id t.odd q) && not b) (item.full_are q on)) in
      let fewer : AreFew w t.odd = omega (arith, few, idle) in
      chain_law eq exact w c t.odd is_awake passed fewer member i awake ne
      ∙ same_chain i awake t.rounds [] (root c member) (omega arith) (or_from _ _ (ne_eqb c i ne) refl) (no_odd t.odd) same_root
      ∙ direct_settles t eq exact passed.distinct few member i ne

  -- ---- convictions

  module _ (member : has_id t.members t.commander ≡ true) (i : ℕ) (awake : is_awake i ≡ true) (ne : t.commander ≢ i) where
    abbrev whole : World V
    whole = telling_world t

    -- node i counts itself in both or in neither
    counts_alike : (is_full i && has_id t.members i) ≡ (has_id t.full i && has_id t.members i)
    counts_alike = elim (cases_Bool (has_id t.members i)) [
      | inl on ↦ ap (λ (b : Bool). b && has_id t.members i) (item.full_are i on)
      | inr off ↦ ap (λ (b : Bool). is_full i && b) off ∙ none (is_full i) ∙ sym (none (has_id t.full i)) ∙ sym (ap (λ (b : Bool). has_id t.full i && b) off)
    ]
      where
        none : (b : Bool) → (b && false) ≡ false
        none true = refl
        none false = refl

    relay_alike : 0 < t.rounds → (q : ℕ) → has_id t.members q ≡ true → has_id (t.commander ∷ i ∷ []) q ≡ false → heard i (t.commander ∷ q ∷ []) ≡ whole.heard i (t.commander ∷ q ∷ [])
    relay_alike some q on off =
        let c : ℕ = t.commander in
        let p = or_parts _ _ off in let r = or_parts _ _ p.1 in
        let cq = eqb-false c q p.0 in let iq = eqb-false i q r.0 in
        let path : IsPath t.members t.rounds (c ∷ q ∷ []) = IsPath-push q (root c member) on (or_from _ _ (ne_eqb c q cq) refl) (omega arith) in
        let away : has_id (c ∷ q ∷ []) i ≡ false = or_from _ _ (ne_eqb c i ne) (or_from _ _ (ne_eqb q i (λ e. iq (sym e))) refl) in
        elim (cases_Bool (has_id t.odd q)) [
          | inl lies ↦
              item.says_are [] q i path (odd_push t.odd [] q (no_odd t.odd) lies) awake away
              ∙ sym (cond-true (has_id t.odd q) (t.says i (c ∷ q ∷ [])) (if has_id t.full q then wrapped (slice_index_or t.told q (Fault 0)) else Fault 0) lies)
          | inr regular ↦
              passed.relays [] q i path regular awake away
              ∙ same_own q (c ∷ []) on (or_from _ _ (ne_eqb c q cq) refl) same_root
              ∙ sym (cond-false (has_id t.odd q) (t.says i (c ∷ q ∷ [])) (if has_id t.full q then wrapped (slice_index_or t.told q (Fault 0)) else Fault 0) regular)
        ]

    convicts_alike_relayed : 0 < t.rounds → convicts eq (ear w i) t.commander ≡ convicts_commander eq t i
    convicts_alike_relayed some =
        let c : ℕ = t.commander in
        ap₂ (λ (o : Wrapped V) (rs : List (Wrapped V)). is_convicted eq o rs (is_full i && has_id t.members i) t.rounds) (item.told_are i awake ne)
        (map_alike (λ q. heard i (c ∷ q ∷ [])) (λ q. whole.heard i (c ∷ q ∷ [])) (outside t.members (c ∷ i ∷ [])) (all_outside t.members (c ∷ i ∷ []) _ (relay_alike some)))
        ∙ ap (λ (b : Bool). is_convicted eq (whole.heard i (c ∷ [])) (relays_of (ear whole i) c) b t.rounds) counts_alike

    convicts_both : convicts eq (ear w i) t.commander ≡ convicts_commander eq t i
    convicts_both = elim (cases_lt 0 t.rounds) [
      | inl some ↦ convicts_alike_relayed some
      | inr none ↦
          unrelayed eq (heard i (t.commander ∷ [])) (relays_of (ear w i) t.commander) (is_full i && has_id t.members i) t.rounds (omega arith)
          ∙ sym (unrelayed eq (whole.heard i (t.commander ∷ [])) (relays_of (ear whole i) t.commander) (has_id t.full i && has_id t.members i) t.rounds (omega arith))
    ]

-- any world of which that is told has these rounds and members
at_telling : {V : Type 0} (P : World V → Type 0) (w : World V) (t : Telling V) → w.rounds ≡ t.rounds → w.members ≡ t.members → P (world_with t w.is_full w.heard) → P w
at_telling P w t r m h =
    let a = subst (λ (k : ℕ). P (record { rounds = k; members = t.members; is_full = w.is_full; heard = w.heard })) (sym r) h in
    subst (λ (ms : List ℕ). P (record { rounds = w.rounds; members = ms; is_full = w.is_full; heard = w.heard })) (sym m) a

pub item_law : {V : Type 0} (eq : V → V → Bool) → IsExact eq → ItemLaw eq
item_law {V} eq exact w is_awake t passed item few member i awake ne =
    at_telling (λ (x : World V). IsPassedOn x t.commander t.odd is_awake → IsTellingOf x is_awake t → settled eq x i (t.commander ∷ []) ≡ settled_item eq t i) w t item.rounds_are item.members_are
    (λ p it. settles eq t w.is_full w.heard is_awake p it exact few member i awake ne) passed item

pub convicts_law : {V : Type 0} (eq : V → V → Bool) → ItemConvictsLaw eq
convicts_law {V} eq w is_awake t passed item member i awake ne =
    at_telling (λ (x : World V). IsPassedOn x t.commander t.odd is_awake → IsTellingOf x is_awake t → convicts eq (ear x i) t.commander ≡ convicts_commander eq t i) w t item.rounds_are item.members_are
    (λ p it. convicts_both eq t w.is_full w.heard is_awake p it member i awake ne) passed item

-- ---- nodes that heard alike in the last round

module _ {V : Type 0} (eq : V → V → Bool) (w : World V) (odd : List ℕ) (c i j : ℕ) (oi : has_id odd i ≡ false) (oj : has_id odd j ≡ false)
    (same : (back : List ℕ) → IsPath w.members w.rounds (c ∷ back) → length (c ∷ back) ≡ w.rounds + 1 → AreOdd odd back → w.heard i (c ∷ back) ≡ w.heard j (c ∷ back)) where
  -- each odd member is another one
  other_odd : (k q : ℕ) → has_id odd k ≡ false → has_id odd q ≡ true → (has_id odd q && not (q == k)) ≡ true
  other_odd k q off on = ap (λ (b : Bool). b && not (q == k)) on ∙ ap not (ne_eqb q k (λ e. both_ways _ off (ap (has_id odd) (sym e) ∙ on)))

  same_views : (r : ℕ) (back : List ℕ) → IsPath w.members w.rounds (c ∷ back) → r + length (c ∷ back) ≡ w.rounds + 1 → AreOdd odd back
      → chain_within eq w odd i r (c ∷ back) ≡ chain_within eq w odd j r (c ∷ back)
  same_views zero back path long odds = chain_now eq w odd i (c ∷ back) ∙ same back path (omega arith) odds ∙ sym (chain_now eq w odd j (c ∷ back))
  same_views (suc r) back path long odds =
      let p : List ℕ = c ∷ back in
      let at : (q : ℕ) → has_id w.members q ≡ true → has_id p q ≡ false → chain_term eq w odd r i p q ≡ chain_term eq w odd r j p q =
      λ q member away. elim (cases_Bool (has_id odd q)) [
        | inl on ↦ chain_odd eq w odd r i p q (other_odd i q oi on)
            ∙ same_views r (back ++ q ∷ []) (IsPath-push q path member away (omega arith)) (omega (arith, length_push back q)) (odd_push odd back q odds on)
            ∙ sym (chain_odd eq w odd r j p q (other_odd j q oj on))
        | inr off ↦ chain_base eq w odd r i p q (no_more (has_id odd q) q i off) ∙ sym (chain_base eq w odd r j p q (no_more (has_id odd q) q j off))
      ]
      in
      chain_later eq w odd r i p
      ∙ ap (λ (ts : List (Wrapped V)). unwrapped (majority eq ts)) (map_alike (chain_term eq w odd r i p) (chain_term eq w odd r j p) (outside w.members p) (all_outside w.members p _ at))
      ∙ sym (chain_later eq w odd r j p)

pub views_law : {V : Type 0} (eq : V → V → Bool) → ViewsLaw eq
views_law eq w odd c i j member oi oj ni nj same = same_views eq w odd c i j oi oj same w.rounds [] (root c member) (omega arith) (no_odd odd)

-- two nodes of which that is known settle an item alike
pub direct_views : {V : Type 0} (t : Telling V) (eq : V → V → Bool) → IsExact eq → Distinct t.members → HasFewOdd t → has_id t.members t.commander ≡ true → 0 < t.rounds
    → (i j : ℕ) → t.commander ≢ i → t.commander ≢ j → has_id t.odd i ≡ false → has_id t.odd j ≡ false
    → ((path : List ℕ) → length path ≡ t.rounds + 1 → t.says i path ≡ t.says j path)
    → settled_item eq t j ≡ settled_item eq t i
direct_views t eq exact distinct few member some i j ni nj oi oj same =
    let c : ℕ = t.commander in
    let long : (back : List ℕ) → length (c ∷ back) ≡ t.rounds + 1 → (k : ℕ) → (direct_world t).heard k (c ∷ back) ≡ t.says k (c ∷ back) =
    λ back e k. cond-false (length (c ∷ back) == 1) (slice_index_or t.told k (Fault 0)) (t.says k (c ∷ back)) (ne_eqb (length (c ∷ back)) 1 (λ f. omega arith))
    in
    sym (direct_settles t eq exact distinct few member j nj)
    ∙ sym (views_law eq (direct_world t) t.odd c i j member oi oj ni nj (λ back path e odds. long back e i ∙ same (c ∷ back) e ∙ sym (long back e j)))
    ∙ direct_settles t eq exact distinct few member i ni
