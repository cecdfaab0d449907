-- The world of an item that is relayed is one in which few or many are odd, and its telling has what the world has.
use Rattle.std.proofs.Common.{ℕ, ◌≡◌, ◌≢◌, ◌<◌, ◌≤◌, ◌+◌, ◌-◌, ◌==◌, Bool, true, false, List, [], ◌∷◌, ◌++◌, length, take, refl, sym, ap, ◌∙◌, arith, eq-eqb, ne_eqb}
use Rattle.std.specs.Prelude.{Option, None, Some, IfSome, slice_index_or, if◌then◌else◌}
use Rattle.std.proofs.lemmas.Bool.{cond-true, cond-false}
use Rattle.std.proofs.lemmas.List.{length-take-le}
use Rattle.node_grid.specs.NodeSet.{has_id}
use Rattle.node_grid.specs.Count.{Distinct}
use Rattle.omh_paths.specs.declared.wrapped.Wrapped.{Wrapped}
use Rattle.omh_paths.specs.declared.wrapped.Wrapped.TheVariants.{Fault}
use Rattle.omh_paths.specs.Wrapped.{IsExact}
use Rattle.omh_paths.specs.PathLaws.{off_longer}
use Rattle.omh_paths.specs.Paths.{IsPath}
use Rattle.omh.specs.Omh.{World, ear, settled}
use Rattle.omh.specs.Written.{IsSmall, last_node}
use Rattle.omh.specs.Facts.{front_last, last_push}
use Rattle.equivocation.specs.Conviction.{convicts}
use Rattle.settled_paths.specs.Passing.{or_passed, passed, passing_world, HearAlike}
use Rattle.settled_paths.proofs.Layers.{small_more}
use Rattle.settled_paths.proofs.Passes.{passed_push}
use Rattle.odd_relays.specs.Chains.{IsPassedOn}
use Rattle.odd_relays.specs.Telling.{Telling, settled_item, convicts_commander}
use Rattle.odd_relays.specs.ItemLaws.{IsTellingOf}
use Rattle.odd_relays.proofs.ItemLaws.{item_law, convicts_law}
use Rattle.odd_relays.proofs.Sparing.{spared_law}
use Rattle.settled_items.specs.Relaying.{clipped, said_instead, relay_heard, AreOddHeard, AreFewOdd}
use Rattle.settled_items.proofs.Clipping.{clipped_small, heard_small}

module _ {V : Type 0} (full : List ℕ) (own : Wrapped V) (says : ℕ → List ℕ → Option (Wrapped V)) where
  -- what a path's last node hears itself
  pub heard_itself : (i : ℕ) (path : List ℕ) → last_node path ≡ i → clipped (passed full own says path) ≡ relay_heard full own says i path
  heard_itself i path is = ap (λ (o : Option (Wrapped V)). clipped (or_passed o (passed full own says path))) (sym (cond-true (last_node path == i) None (says i path) (eq-eqb (last_node path) i is)))

  other : (i : ℕ) (path : List ℕ) → last_node path ≢ i → clipped (or_passed (says i path) (passed full own says path)) ≡ relay_heard full own says i path
  other i path ne = ap (λ (o : Option (Wrapped V)). clipped (or_passed o (passed full own says path))) (sym (cond-false (last_node path == i) None (says i path) (ne_eqb (last_node path) i ne)))

  -- what another node hears, in place of what is passed on and as it is passed on
  pub heard_instead : (i : ℕ) (path : List ℕ) (v : Wrapped V) → last_node path ≢ i → Some v ≡ says i path → IsSmall 252 v → v ≡ relay_heard full own says i path
  heard_instead i path v ne is small =
      sym (clipped_small v (small_more 252 254 v (omega arith) small))
      ∙ ap (λ (o : Option (Wrapped V)). clipped (or_passed o (passed full own says path))) is
      ∙ other i path ne

  pub heard_passed : (i : ℕ) (path : List ℕ) → last_node path ≢ i → None ≡ says i path → clipped (passed full own says path) ≡ relay_heard full own says i path
  heard_passed i path ne is = ap (λ (o : Option (Wrapped V)). clipped (or_passed o (passed full own says path))) is ∙ other i path ne

  -- nodes that hear alike in place of what is passed on hear alike
  pub relays_alike : (i j len : ℕ) → 0 < len → HearAlike says i j len → (path : List ℕ) → length path ≡ len → relay_heard full own says i path ≡ relay_heard full own says j path
  relays_alike i j len some alike path long =
      let front : List ℕ = take (length path - 1) path in
      let q : ℕ = last_node path in
      let split : path ≡ front ++ q ∷ [] = front_last path (omega (arith, long)) in
      let short : length front + 1 ≡ len = omega (arith, length-take-le (length path - 1) path (omega arith), long) in
      let same = alike front q short in
      let at : (k : ℕ) → said_instead says k path ≡ (if q == k then None else says k (front ++ q ∷ [])) =
      λ k. ap (λ (p : List ℕ). if q == k then None else says k p) split
      in
      ap (λ (o : Option (Wrapped V)). clipped (or_passed o (passed full own says path))) (at i ∙ same ∙ sym (at j))

module _ {V : Type 0} (rounds : ℕ) (members full : List ℕ) (c : ℕ) (odd awake : List ℕ) (own : Wrapped V) (says : ℕ → List ℕ → Option (Wrapped V)) (told : List (Wrapped V))
    (short : rounds ≤ 3) (distinct : Distinct members) (member : has_id members c ≡ true)
    (fulls : (q : ℕ) → has_id members q ≡ true → has_id full q ≡ true → has_id awake q ≡ true)
    (own_small : IsSmall 251 own) (said_small : (i : ℕ) (path : List ℕ) → IfSome (says i path) (λ v. IsSmall 251 v))
    (odd_heard : AreOddHeard rounds members c odd (λ i. has_id awake i) says)
    (told_are : (i : ℕ) → has_id awake i ≡ true → slice_index_or told i (Fault 0) ≡ or_passed (says i (c ∷ [])) own) where
  abbrev w : World V
  w = passing_world rounds members full own says

  abbrev t : Telling V
  t = record { rounds = rounds; members = members; full = full; commander = c; odd = odd; told = told; says = relay_heard full own says }

  abbrev is_awake : ℕ → Bool
  is_awake i = has_id awake i

  passed_on : IsPassedOn w c odd is_awake
  passed_on = record {
    distinct = distinct;
    full = fulls;
    relays = λ front q i path regular here off.
        ap (λ (o : Option (Wrapped V)). or_passed o (passed full own says (c ∷ (front ++ q ∷ [])))) (odd_heard front q i path regular here off)
        ∙ passed_push full own says (c ∷ front) q (omega arith);
  }

  said : (front : List ℕ) (q i : ℕ) → IsPath members rounds (c ∷ (front ++ q ∷ [])) → has_id (c ∷ (front ++ q ∷ [])) i ≡ false
      → w.heard i (c ∷ (front ++ q ∷ [])) ≡ relay_heard full own says i (c ∷ (front ++ q ∷ []))
  said front q i path off =
      let p : List ℕ = c ∷ (front ++ q ∷ []) in
      let ne : q ≢ i = (off_longer (c ∷ front) q i off).1 in
      let few = path.short in
      let is : said_instead says i p ≡ says i p = cond-false (last_node p == i) None (says i p) (ap (λ (k : ℕ). k == i) (last_push (c ∷ front) q) ∙ ne_eqb q i ne) in
      sym (clipped_small (or_passed (says i p) (passed full own says p)) (heard_small full own says own_small said_small i p (omega arith) (omega (arith, few))))
      ∙ ap (λ (o : Option (Wrapped V)). clipped (or_passed o (passed full own says p))) (sym is)

  telling_is : IsTellingOf w is_awake t
  telling_is = record {
    rounds_are = refl;
    members_are = refl;
    full_are = λ q on. refl;
    told_are = λ i here ne. sym (told_are i here);
    says_are = λ front q i path odds here off. said front q i path off;
  }

  pub few_settle : (eq : V → V → Bool) → IsExact eq → AreFewOdd rounds members full odd → (i : ℕ) → has_id awake i ≡ true → c ≢ i
      → settled_item eq t i ≡ settled eq (passing_world rounds members full own says) i (c ∷ [])
  few_settle eq exact few i here ne = sym (item_law eq exact w is_awake t passed_on telling_is few member i here ne)

  pub all_convict : (eq : V → V → Bool) (i : ℕ) → has_id awake i ≡ true → c ≢ i
      → convicts_commander eq t i ≡ convicts eq (ear (passing_world rounds members full own says) i) c
  all_convict eq i here ne = sym (convicts_law eq w is_awake t passed_on telling_is member i here ne)

  -- nobody convicts a commander that told all alike
  pub few_spare : (eq : V → V → Bool) → IsExact eq → AreFewOdd rounds members full odd → (v : Wrapped V)
      → ((k : ℕ) → has_id awake k ≡ true → c ≢ k → slice_index_or told k (Fault 0) ≡ v) → (i : ℕ) → has_id awake i ≡ true → c ≢ i
      → convicts eq (ear (passing_world rounds members full own says) i) c ≡ false
  few_spare eq exact few v alike i here ne =
      spared_law eq exact w c odd is_awake passed_on few member v (λ k at apart. sym (told_are k at) ∙ alike k at apart) i here ne
