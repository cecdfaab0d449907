-- The world in which paths of odd members alone are heard settles them as the item's does.
use Rattle.std.proofs.Common.{ℕ, zero, suc, ◌≡◌, ◌≢◌, ◌<◌, ◌==◌, ◌&&◌, Bool, true, false, not, List, [], ◌∷◌, ◌++◌, length, reverse, refl, sym, ap, ◌∙◌, inl, inr, arith, ne_eqb, ◌||◌, ◌-◌, eqb-true, eq-eqb, map, ap₂}
use Rattle.std.specs.Prelude.{slice_index_or, if◌then◌else◌}
use Rattle.std.proofs.lemmas.Bool.{cases_Bool, cond-true, cond-false, and_parts, cases_eq, or_left, or_right, or_cases, both_ways}
use Rattle.std.proofs.lemmas.List.{length_push, reverse-append, length-reverse, reverse-reverse}
use Rattle.node_grid.specs.NodeSet.{has_id}
use Rattle.node_grid.specs.Count.{Distinct}
use Rattle.omh_paths.specs.declared.wrapped.Wrapped.{Wrapped}
use Rattle.omh_paths.specs.declared.wrapped.Wrapped.TheVariants.{Fault}
use Rattle.omh_paths.specs.Wrapped.{wrapped, unwrapped, IsExact}
use Rattle.omh_paths.specs.Majority.{majority}
use Rattle.omh_paths.specs.Paths.{outside}
use Rattle.omh_paths.specs.PathLaws.{map_alike, all_outside}
use Rattle.omh.specs.Omh.{World, ear, own_term}
use Rattle.equivocation.specs.Conviction.{is_convicted}
use Rattle.odd_relays.specs.Chains.{IsPassedOn, chain_within}
use Rattle.odd_relays.specs.Telling.{Telling, telling_heard, telling_world, settled_item, convicts_commander, HasFewOdd}
use Rattle.odd_relays.specs.Direct.{direct_world}
use Rattle.odd_relays.proofs.ChainLaws.{chain_term, chain_now, chain_later, chain_base, chain_odd, chain_law, told_law, chain_common}
use Rattle.odd_relays.proofs.Tellings.{each_telling_passes}

module _ {V : Type 0} (t : Telling V) where
  abbrev pub direct : World V
  direct = direct_world t

  abbrev pub whole : World V
  whole = telling_world t

  -- both have this for the path
  abbrev pub AreSame : List ℕ → Type 0
  AreSame path = (k : ℕ) → direct.heard k path ≡ whole.heard k path

  same_root : (c : ℕ) → AreSame (c ∷ [])
  same_root c k = refl

  same_back : (back : List ℕ) (q k : ℕ) → 0 < length back → has_id t.odd q ≡ true → telling_heard t k (q ∷ back) ≡ t.says k (reverse (q ∷ back))
  same_back [] q k some on = absurd (omega arith)
  same_back (b ∷ back) q k some on = cond-true _ _ _ on

  pub same_push : (path : List ℕ) (q : ℕ) → 0 < length path → has_id t.odd q ≡ true → AreSame (path ++ q ∷ [])
  same_push path q some on k =
      let p : List ℕ = path ++ q ∷ [] in
      let turned : reverse p ≡ q ∷ reverse path = reverse-append path (q ∷ []) in
      cond-false (length p == 1) (slice_index_or t.told k (Fault 0)) (t.says k p) (ne_eqb (length p) 1 (λ e. omega (arith, length_push path q)))
      ∙ ap (t.says k) (sym (reverse-reverse p)) ∙ ap (λ (xs : List ℕ). t.says k (reverse xs)) turned
      ∙ sym (same_back (reverse path) q k (omega (arith, length-reverse path)) on)
      ∙ ap (telling_heard t k) (sym turned)

  same_own : (q : ℕ) (path : List ℕ) → AreSame path → own_term (ear direct q) path ≡ own_term (ear whole q) path
  same_own q path same = ap (λ (v : Wrapped V). if has_id t.full q then wrapped v else Fault 0) (same q)

  pub same_chain : (eq : V → V → Bool) (i r : ℕ) (path : List ℕ) → 0 < length path → AreSame path → chain_within eq direct t.odd i r path ≡ chain_within eq whole t.odd i r path
  same_chain eq i zero path some same = chain_now eq direct t.odd i path ∙ same i ∙ sym (chain_now eq whole t.odd i path)
  same_chain eq i (suc r) path some same =
      let at : (q : ℕ) → has_id t.members q ≡ true → has_id path q ≡ false → chain_term eq direct t.odd r i path q ≡ chain_term eq whole t.odd r i path q =
      λ q member off. elim (cases_Bool (has_id t.odd q && not (q == i))) [
        | inl on ↦ chain_odd eq direct t.odd r i path q on
            ∙ same_chain eq i r (path ++ q ∷ []) (omega (arith, length_push path q)) (same_push path q some (and_parts (has_id t.odd q) (not (q == i)) on).0)
            ∙ sym (chain_odd eq whole t.odd r i path q on)
        | inr off' ↦ chain_base eq direct t.odd r i path q off' ∙ same_own q path same ∙ sym (chain_base eq whole t.odd r i path q off')
      ]
      in
      chain_later eq direct t.odd r i path
      ∙ ap (λ (ts : List (Wrapped V)). unwrapped (majority eq ts)) (map_alike (chain_term eq direct t.odd r i path) (chain_term eq whole t.odd r i path) (outside t.members path) (all_outside t.members path _ at))
      ∙ sym (chain_later eq whole t.odd r i path)

  -- all nodes are awake here
  passed : Distinct t.members → IsPassedOn whole t.commander t.odd (λ k. true)
  passed distinct = each_telling_passes V t (λ k. true) distinct (λ q on f. refl)

  pub direct_settles : (eq : V → V → Bool) → IsExact eq → Distinct t.members → HasFewOdd t → has_id t.members t.commander ≡ true → (i : ℕ) → t.commander ≢ i
      → chain_within eq direct t.odd i t.rounds (t.commander ∷ []) ≡ settled_item eq t i
  direct_settles eq exact distinct few member i ne =
      same_chain eq i t.rounds (t.commander ∷ []) (omega arith) (same_root t.commander)
      ∙ sym (chain_law eq exact whole t.commander t.odd (λ k. true) (passed distinct) few member i refl ne)

  -- what nodes were told alike all of them settle
  awake : List ℕ → ℕ → Bool
  awake nodes k = (t.commander == k) || has_id nodes k

  awake_node : (nodes : List ℕ) (k : ℕ) → has_id nodes k ≡ true → awake nodes k ≡ true
  unfolding awake
  awake_node nodes k on = or_right (t.commander == k) (has_id nodes k) on

  awake_other : (nodes : List ℕ) (k : ℕ) → awake nodes k ≡ true → t.commander ≢ k → has_id nodes k ≡ true
  unfolding awake
  awake_other nodes k h ne = elim (or_cases (t.commander == k) (has_id nodes k) h) [
    | inl e ↦ absurd (ne (eqb-true t.commander k e))
    | inr on ↦ on
  ]

  awake_full : (nodes : List ℕ) → ((q : ℕ) → has_id t.members q ≡ true → has_id t.full q ≡ true → t.commander ≢ q → has_id nodes q ≡ true) → (q : ℕ) → has_id t.members q ≡ true → has_id t.full q ≡ true → awake nodes q ≡ true
  unfolding awake
  awake_full nodes fulls q on f = elim (cases_eq t.commander q) [
    | inl e ↦ or_left (t.commander == q) (has_id nodes q) (eq-eqb t.commander q e)
    | inr ne ↦ or_right (t.commander == q) (has_id nodes q) (fulls q on f ne)
  ]

  pub direct_alike : (eq : V → V → Bool) → IsExact eq → Distinct t.members → HasFewOdd t → has_id t.members t.commander ≡ true → (nodes : List ℕ) (v : Wrapped V) → has_id nodes t.commander ≡ false
      → ((q : ℕ) → has_id t.members q ≡ true → has_id t.full q ≡ true → t.commander ≢ q → has_id nodes q ≡ true)
      → ((k : ℕ) → has_id nodes k ≡ true → slice_index_or t.told k (Fault 0) ≡ v)
      → (i : ℕ) → has_id nodes i ≡ true → v ≡ settled_item eq t i
  direct_alike eq exact distinct few member nodes v off fulls alike i on =
      sym (told_law eq exact whole t.commander t.odd (awake nodes) (each_telling_passes V t (awake nodes) distinct (awake_full nodes fulls)) few member v
      (λ k ak ne. alike k (awake_other nodes k ak ne)) i (awake_node nodes i on) (λ e. both_ways _ off (ap (has_id nodes) e ∙ on)))

  pub direct_common : (eq : V → V → Bool) → IsExact eq → Distinct t.members → HasFewOdd t → has_id t.members t.commander ≡ true → 0 < t.rounds
      → ((q : ℕ) → has_id t.odd q ≡ true → q ≡ t.commander) → (i j : ℕ) → t.commander ≢ i → t.commander ≢ j → settled_item eq t j ≡ settled_item eq t i
  direct_common eq exact distinct few member some only i j ni nj =
      let c : ℕ = t.commander in
      let e : t.rounds ≡ suc (t.rounds - 1) = omega arith in
      chain_law eq exact whole c t.odd (λ k. true) (passed distinct) few member j refl nj
      ∙ ap (λ (r : ℕ). chain_within eq whole t.odd j r (c ∷ [])) e
      ∙ chain_common eq whole t.odd c j i (t.rounds - 1) only
      ∙ sym (ap (λ (r : ℕ). chain_within eq whole t.odd i r (c ∷ [])) e)
      ∙ sym (chain_law eq exact whole c t.odd (λ k. true) (passed distinct) few member i refl ni)

-- ---- how many are odd

-- ---- what is relayed of the commander directly

pub relay_of : {V : Type 0} → Telling V → ℕ → ℕ → Wrapped V
relay_of t i q = (telling_world t).heard i (t.commander ∷ q ∷ [])

pub relay_odd : {V : Type 0} (t : Telling V) (i q : ℕ) → has_id t.odd q ≡ true → relay_of t i q ≡ t.says i (t.commander ∷ q ∷ [])
unfolding relay_of
relay_odd t i q on = cond-true _ _ _ on

pub relay_regular : {V : Type 0} (t : Telling V) (i q : ℕ) → has_id t.odd q ≡ false → relay_of t i q ≡ own_term (ear (direct_world t) q) (t.commander ∷ [])
unfolding relay_of
relay_regular t i q off = cond-false _ _ _ off

pub convicts_by : {V : Type 0} (eq : V → V → Bool) (t : Telling V) (i : ℕ) (own : Wrapped V) (relays : List (Wrapped V)) (counted : Bool)
    → own ≡ slice_index_or t.told i (Fault 0) → relays ≡ map (relay_of t i) (outside t.members (t.commander ∷ i ∷ [])) → counted ≡ (has_id t.full i && has_id t.members i)
    → is_convicted eq own relays counted t.rounds ≡ convicts_commander eq t i
unfolding relay_of
convicts_by eq t i own relays counted a b d =
    ap₂ (λ o rs. is_convicted eq o rs counted t.rounds) a b
    ∙ ap (λ k. is_convicted eq (slice_index_or t.told i (Fault 0)) (map (λ q. (telling_world t).heard i (t.commander ∷ q ∷ [])) (outside t.members (t.commander ∷ i ∷ []))) k t.rounds) d
