-- What nodes hear in place of what is passed on, by what came over the links.
use Rattle.std.proofs.Common.{ℕ, suc, ◌≡◌, ◌≢◌, ◌<◌, ◌≤◌, ◌+◌, ◌-◌, ◌==◌, ◌&&◌, Bool, true, false, not, List, [], ◌∷◌, ◌++◌, length, take, Option, None, Some, ◌⊎◌, refl, sym, ap, ap₂, subst, ◌∙◌, inl, inr, arith, eqb-true, eq-eqb, ne_eqb}
use Rattle.std.specs.Prelude.{IfSome}
use Rattle.std.proofs.lemmas.Bool.{cases_Bool, cases_eq, cond-true, cond-false, or_right, or_cases, both_ways}
use Rattle.std.proofs.lemmas.List.{length_push}
use Rattle.node_grid.specs.NodeSet.{has_id}
use Rattle.node_grid.specs.ListLaws.{has_push}
use Rattle.node_grid.specs.SetFacts.{split_off, front_distinct}
use Rattle.omh_paths.specs.PathLaws.{off_longer}
use Rattle.omh_paths.specs.Paths.{place_in, IsPath}
use Rattle.omh_paths.specs.Wrapped.{wrapped}
use Rattle.omh_paths.specs.declared.wrapped.Wrapped.{Wrapped}
use Rattle.omh_paths.specs.declared.wrapped.Wrapped.TheVariants.{Plain, Fault}
use Rattle.omh.specs.Omh.{World, ear, own_term}
use Rattle.omh.specs.Written.{IsSmall, last_node}
use Rattle.omh.specs.Facts.{last_push, front_last}
use Rattle.settled_paths.specs.Passing.{or_passed, instead, HearAlike}
use Rattle.settled_paths.specs.Laws.{IsPassedOn}
use Rattle.protocol.specs.Arrival.{ItemForm, said}
use Rattle.protocol.specs.Arrival.Arrival.{Good}
use Rattle.protocol.specs.Heard.{paths_of, heard}
use Rattle.protocol.specs.Talk.{Talk, rounds_upto}
use Rattle.protocol.specs.Run.{System}
use Rattle.protocol.specs.Accepted.{IsAccepted}
use Rattle.safety.proofs.Talks.{FormFits, HeardIn}
use Rattle.touched_items.specs.Items.{talk_of, EntryForm, AreEntries, Sizes, sizes_in}
use Rattle.heard_links.specs.declared.came.Came.{Came}
use Rattle.heard_links.specs.declared.came.Came.TheVariants as came
use Rattle.heard_links.specs.declared.links.Links.{Links}
use Rattle.heard_links.specs.declared.phase.Phase.{Phase}
use Rattle.heard_links.specs.Talks.{members_at}
use Rattle.heard_links.specs.Coming.{is_untouched}
use Rattle.heard_links.specs.Hearing.{frame_kind, is_even, is_asked, says_in, IsCame, IsAsked, IsAlikeFrom, IsHeard, item_of, came_at, talk_in, source, passed_on}
use Rattle.heard_links.specs.Passing.{own_in, world_in, says_of, ArePassedOn}
use Rattle.heard_links.proofs.Ears.{says_even, says_heard, asked_if, AskedParts, asked_parts, says_alike}
use Rattle.heard_links.proofs.Places.{placed_in, source_same, last_has}
use Rattle.heard_links.proofs.Runs.{heard_few, heard_even, heard_relay_even, heard_first_bad, heard_relay_bad, known}
use Rattle.heard_links.proofs.Sets.{few_nodes, few_m, in_use, front_on}

-- what was heard is wrapped few times
pub small_heard : {V : Type 0} (P : V → Type 0) (m : ℕ) (w : Wrapped V) → m ≤ 3 → HeardIn P m w → IsSmall 251 w
small_heard P m (Plain v) few h = tt
small_heard P m (Fault k) few h = omega (arith, h, few)

pub smaller : {V : Type 0} (o : Option (Wrapped V)) → IfSome o (λ v. IsSmall 251 v) → IfSome o (λ v. IsSmall 252 v)
smaller None h = tt
smaller (Some (Plain v)) h = tt
smaller (Some (Fault k)) h = omega (arith, h)

-- what came is untouched where the link is even
untouched_is : {V : Type 0} (t : Talk V) (m r j i : ℕ) (c : Came V) → IsCame t m r j i c → is_even t r j i ≡ is_untouched c
untouched_is t m r j i came.Untouched h = h
untouched_is t m r j i (came.Bad k) h = h.0
untouched_is t m r j i (came.Told v) h = h.0
untouched_is t m r j i came.Good h = h.0

-- and the other way round
pub untouched_came : {V : Type 0} (c : Came V) → is_untouched c ≡ true → c ≡ came.Untouched
untouched_came came.Untouched h = refl
untouched_came (came.Bad k) h = absurd (cc)
untouched_came (came.Told v) h = absurd (cc)
untouched_came came.Good h = absurd (cc)

-- a path of one node
within_one : (members : List ℕ) (c : ℕ) → has_id members c ≡ true → (x : ℕ) → has_id (c ∷ []) x ≡ true → has_id members x ≡ true
within_one members c on x h = elim (or_cases (c == x) false h) [
  | inl here ↦ ap (has_id members) (sym (eqb-true c x here)) ∙ on
  | inr later ↦ cc
]

module _ {V : Type 0} (t : Talk V) (m : ℕ) (awake : List ℕ) where
  -- nothing is said of what isn't asked for
  pub says_unasked : (i : ℕ) (path : List ℕ) → is_asked t m awake i path ≡ false → says_in t m awake i path ≡ None
  says_unasked i path lacks =
      cond-false (is_asked t m awake i path && not (is_even t (length path - 1) (last_node path) i)) (Some (heard (rounds_upto t m i) path)) None
      (ap (λ (b : Bool). b && not (is_even t (length path - 1) (last_node path) i)) lacks)

  no_more : (b : Bool) → (b && not true) ≡ false
  no_more true = refl
  no_more false = refl

  -- nothing is said of a path where what is said in its round comes as it is said
  pub says_untouched : (i : ℕ) (path : List ℕ) → (AskedParts t m awake i path → is_even t (length path - 1) (last_node path) i ≡ true) → says_in t m awake i path ≡ None
  says_untouched i path even = elim (cases_Bool (is_asked t m awake i path)) [
    | inl asks ↦
        cond-false (is_asked t m awake i path && not (is_even t (length path - 1) (last_node path) i)) (Some (heard (rounds_upto t m i) path)) None
        (ap (λ (b : Bool). is_asked t m awake i path && not b) (even (asked_parts t m awake i path asks)) ∙ no_more (is_asked t m awake i path))
    | inr lacks ↦ says_unasked i path lacks
  ]

  -- a node hears itself as it passes on
  instead_none : (i q : ℕ) (path : List ℕ) → (i ≢ q → says_in t m awake i (path ++ q ∷ []) ≡ None) → instead (says_in t m awake) i path q ≡ None
  instead_none i q path h = elim (cases_eq q i) [
    | inl e ↦ cond-true (q == i) None (says_in t m awake i (path ++ q ∷ [])) (eq-eqb q i e)
    | inr ne ↦ cond-false (q == i) None (says_in t m awake i (path ++ q ∷ [])) (ne_eqb q i ne) ∙ h (λ e. ne (sym e))
  ]

  instead_says : (i q : ℕ) (path : List ℕ) → q ≢ i → instead (says_in t m awake) i path q ≡ says_in t m awake i (path ++ q ∷ [])
  instead_says i q path ne = cond-false (q == i) None (says_in t m awake i (path ++ q ∷ [])) (ne_eqb q i ne)

  -- of a node that isn't a member nothing is said
  instead_off : (i q : ℕ) (path : List ℕ) → has_id (t.members i) q ≡ false → instead (says_in t m awake) i path q ≡ None
  instead_off i q path off = instead_none i q path (λ ne. says_unasked i (path ++ q ∷ []) (elim (cases_Bool (is_asked t m awake i (path ++ q ∷ []))) [
    | inl asks ↦ absurd (both_ways _ off ((asked_parts t m awake i (path ++ q ∷ []) asks).within q (has_push path q q ∙ or_right (has_id path q) _ (eq-eqb q q refl))))
    | inr lacks ↦ lacks
  ]))

  instead_even : (i q : ℕ) (path : List ℕ) → (i ≢ q → is_even t (length path) q i ≡ true) → instead (says_in t m awake) i path q ≡ None
  instead_even i q path even = instead_none i q path (λ ne. says_even t m awake i q path (even ne))

  alike_from : (i j q : ℕ) (path : List ℕ) → length path ≤ m → has_id awake i ≡ true → has_id awake j ≡ true → t.members i ≡ t.members j → IsAlikeFrom t (length path) q i j
      → instead (says_in t m awake) i path q ≡ instead (says_in t m awake) j path q
  alike_from i j q path short on_i on_j same (inl h) = instead_none i q path (λ ne. absurd (ne (sym h.0))) ∙ sym (instead_even j q path (λ ne. h.1))
  alike_from i j q path short on_i on_j same (inr (inl h)) = instead_even i q path (λ ne. h.1) ∙ sym (instead_none j q path (λ ne. absurd (ne (sym h.0))))
  alike_from i j q path short on_i on_j same (inr (inr h)) =
      instead_says i q path h.0 ∙ says_alike t m awake i j q path short on_i on_j same (λ e. h.0 (sym e)) (λ e. h.1 (sym e)) h.2 ∙ sym (instead_says j q path h.1)

  -- two nodes with the same members hear alike of a round where they do so of each member's frame that comes to one otherwise than it was sent
  pub round_alike : (i j r : ℕ) → r ≤ m → has_id awake i ≡ true → has_id awake j ≡ true → t.members i ≡ t.members j
      → ((q : ℕ) → has_id (t.members i) q ≡ true → IsAlikeFrom t r q i j ⊎ ((k : ℕ) → has_id awake k ≡ true → k ≢ q → is_even t r q k ≡ true))
      → HearAlike (says_in t m awake) i j (r + 1)
  round_alike i j r few on_i on_j same alike = λ path q long.
      let e : r ≡ length path = omega (arith, long) in
      elim (cases_Bool (has_id (t.members i) q)) [
        | inl on ↦ elim (alike q on) [
          | inl is ↦ alike_from i j q path (omega (arith, e, few)) on_i on_j same (subst (λ (k : ℕ). IsAlikeFrom t k q i j) e is)
          | inr even ↦
              instead_even i q path (λ ne. ap (λ (k : ℕ). is_even t k q i) (sym e) ∙ even i on_i ne)
              ∙ sym (instead_even j q path (λ ne. ap (λ (k : ℕ). is_even t k q j) (sym e) ∙ even j on_j ne))
        ]
        | inr off ↦ instead_off i q path off ∙ sym (instead_off j q path (ap (λ (ms : List ℕ). has_id ms q) (sym same) ∙ off))
      ]

module _ {V : Type 0} {N : ℕ} (form : ItemForm V) (first : ℕ → ℕ) (tells : System → ℕ → ℕ → V) (cells : EntryForm V) (in_range : Sizes → V → Type 0) (made : AreEntries form cells in_range)
    (fits : (sys : System) → IsAccepted sys → (p : ℕ) → FormFits (in_range (sizes_in sys)) (talk_of form first tells sys p) sys.setting.config.m)
    (x : Phase N) (links : Links V N) (h : IsHeard form first tells x links (x.config.now.m + 1)) where
  abbrev t : Talk V
  t = talk_in form x links

  abbrev m : ℕ
  m = x.config.now.m

  pub even_is : (r j i : ℕ) (c : Came V) → r ≤ m → j < x.config.now.nodes → has_id x.awake i ≡ true → i ≢ j → c ≡ came_at links r j i → is_even t r j i ≡ is_untouched c
  even_is r j i c low low_j on ne is = untouched_is t m r j i c (subst (IsCame t m r j i) (sym is) (h.heard r j i (omega arith) low_j on ne))

  heard_in : (i : ℕ) (path : List ℕ) → is_asked t m x.awake i path ≡ true → HeardIn (in_range (sizes_in h.sys)) m (heard (rounds_upto t m i) path)
  heard_in i path asks =
      let a = asked_parts t m x.awake i path asks in
      heard_few form first tells cells in_range made fits x (item_of links) h.set h.sys h.run i path (h.set.awake i a.on) (λ q on. in_use x h.set i q (a.within q on))

  pub known_heard : (i : ℕ) (path : List ℕ) → is_asked t m x.awake i path ≡ true → heard (rounds_upto t m i) path ≢ Fault 255
  known_heard i path asks = known (in_range (sizes_in h.sys)) m (heard (rounds_upto t m i) path) (few_m x h.set) (heard_in i path asks)

  pub says_small : (i : ℕ) (path : List ℕ) → IfSome (says_of form x links i path) (λ v. IsSmall 251 v)
  says_small i path = elim (cases_Bool (is_asked t m x.awake i path)) [
    | inl asks ↦ elim (cases_Bool (is_even t (length path - 1) (last_node path) i)) [
      | inl even ↦ subst (λ (o : Option (Wrapped V)). IfSome o (λ v. IsSmall 251 v)) (sym (cond-false (is_asked t m x.awake i path && not (is_even t (length path - 1) (last_node path) i)) (Some (heard (rounds_upto t m i) path)) None
          (ap₂ (λ (a b : Bool). a && not b) asks even))) tt
      | inr un ↦ subst (λ (o : Option (Wrapped V)). IfSome o (λ v. IsSmall 251 v)) (sym (cond-true (is_asked t m x.awake i path && not (is_even t (length path - 1) (last_node path) i)) (Some (heard (rounds_upto t m i) path)) None
          (ap₂ (λ (a b : Bool). a && not b) asks un))) (small_heard (in_range (sizes_in h.sys)) m (heard (rounds_upto t m i) path) (few_m x h.set) (heard_in i path asks))
    ]
    | inr lacks ↦ subst (λ (o : Option (Wrapped V)). IfSome o (λ v. IsSmall 251 v)) (sym (says_unasked t m x.awake i path lacks)) tt
  ]

  pub says_none : (i q : ℕ) (front : List ℕ) → is_even t (length front) q i ≡ true → says_of form x links i (front ++ q ∷ []) ≡ None
  says_none i q front even = says_even t m x.awake i q front even

  -- what is said for a path, by what came
  pub said_none : (i : ℕ) (path : List ℕ) → is_asked t m x.awake i path ≡ true → is_even t (length path - 1) (last_node path) i ≡ true → None ≡ says_of form x links i path
  said_none i path asks even =
      sym (cond-false (is_asked t m x.awake i path && not (is_even t (length path - 1) (last_node path) i)) (Some (heard (rounds_upto t m i) path)) None (ap₂ (λ (a b : Bool). a && not b) asks even))

  pub said_heard : (i : ℕ) (path : List ℕ) → is_asked t m x.awake i path ≡ true → is_even t (length path - 1) (last_node path) i ≡ false → Some (heard (rounds_upto t m i) path) ≡ says_of form x links i path
  said_heard i path asks un =
      sym (cond-true (is_asked t m x.awake i path && not (is_even t (length path - 1) (last_node path) i)) (Some (heard (rounds_upto t m i) path)) None (ap₂ (λ (a b : Bool). a && not b) asks un))

  -- what is laid down for the link tells whether it is even
  pub came_even : (i : ℕ) (path : List ℕ) (c : Came V) → is_asked t m x.awake i path ≡ true → 0 < length path → c ≡ came_at links (length path - 1) (last_node path) i
      → is_even t (length path - 1) (last_node path) i ≡ is_untouched c
  came_even i path c asks some is =
      let a = asked_parts t m x.awake i path asks in
      even_is (length path - 1) (last_node path) i c (omega (arith, a.short, some)) (in_use x h.set i (last_node path) (a.within (last_node path) (last_has path some))) a.on a.other is

  -- of a bad frame the error is heard
  bad_heard : (i q n : ℕ) (front : List ℕ) → frame_kind (rounds_upto t m i) (length front) q ≡ Some n → heard (rounds_upto t m i) (front ++ q ∷ []) ≡ Fault 0
  bad_heard i q n [] is = heard_first_bad form first tells cells in_range made fits x (item_of links) h.set h.sys h.run i q n is
  bad_heard i q n (c ∷ rest) is = heard_relay_bad form first tells cells in_range made fits x (item_of links) h.set h.sys h.run i q (length rest) n (c ∷ rest) refl is

  -- and of a first frame that tells something, this
  told_heard : (i q : ℕ) (v : V) (front : List ℕ) → length front ≡ 0 → (rounds_upto t m i).first q ≡ Good v → heard (rounds_upto t m i) (front ++ q ∷ []) ≡ Plain v
  told_heard i q v [] none is = ap said is
  told_heard i q v (c ∷ rest) none is = absurd (omega (arith, none))

  pub said_told : (i : ℕ) (path : List ℕ) (v : V) → is_asked t m x.awake i path ≡ true → 0 < length path → came.Told v ≡ came_at links (length path - 1) (last_node path) i
      → Some (Plain v) ≡ says_of form x links i path
  said_told i path v asks some is =
      let a = asked_parts t m x.awake i path asks in
      let q : ℕ = last_node path in
      let front : List ℕ = take (length path - 1) path in
      let split : path ≡ front ++ q ∷ [] = front_last path some in
      let long : length front ≡ length path - 1 = omega (arith, ap length split, length_push front q) in
      let laid : IsCame t m (length path - 1) q i (came.Told v) =
      subst (IsCame t m (length path - 1) q i) (sym is) (h.heard (length path - 1) q i (omega (arith, a.short, some)) (in_use x h.set i q (a.within q (last_has path some))) a.on a.other) in
      let plain : heard (rounds_upto t m i) path ≡ Plain v = ap (heard (rounds_upto t m i)) split ∙ told_heard i q v front (long ∙ laid.1) laid.2 in
      ap Some (sym plain) ∙ said_heard i path asks laid.0

  pub said_bad : (i : ℕ) (path : List ℕ) (n : ℕ) → is_asked t m x.awake i path ≡ true → 0 < length path → came.Bad n ≡ came_at links (length path - 1) (last_node path) i
      → Some (Fault 0) ≡ says_of form x links i path
  said_bad i path n asks some is =
      let a = asked_parts t m x.awake i path asks in
      let q : ℕ = last_node path in
      let front : List ℕ = take (length path - 1) path in
      let split : path ≡ front ++ q ∷ [] = front_last path some in
      let long : length front ≡ length path - 1 = omega (arith, ap length split, length_push front q) in
      let laid : IsCame t m (length path - 1) q i (came.Bad n) =
      subst (IsCame t m (length path - 1) q i) (sym is) (h.heard (length path - 1) q i (omega (arith, a.short, some)) (in_use x h.set i q (a.within q (last_has path some))) a.on a.other) in
      let fault : heard (rounds_upto t m i) path ≡ Fault 0 =
      ap (heard (rounds_upto t m i)) split ∙ bad_heard i q n front (ap (λ (r : ℕ). frame_kind (rounds_upto t m i) r q) long ∙ laid.1) in
      ap Some (sym fault) ∙ said_heard i path asks laid.0

  pub heard_small_at : (i : ℕ) (path : List ℕ) → is_asked t m x.awake i path ≡ true → IsSmall 252 (heard (rounds_upto t m i) path)
  heard_small_at i path asks = smaller (Some (heard (rounds_upto t m i) path)) (small_heard (in_range (sizes_in h.sys)) m (heard (rounds_upto t m i) path) (few_m x h.set) (heard_in i path asks))

  pub asked_is : (i : ℕ) (path : List ℕ) → is_asked t m x.awake i path ≡ true → IsAsked t m x.awake i path
  asked_is i path asks = let a = asked_parts t m x.awake i path asks in record { awake_is = a.on; within = a.within; short = a.short; other = a.other }

  -- an uneven link says what is heard, an even one lets pass what is passed on
  passes_on : (i q : ℕ) (front : List ℕ) (passed : Wrapped V) → has_id x.awake i ≡ true → ((k : ℕ) → has_id (front ++ q ∷ []) k ≡ true → has_id (members_at x i) k ≡ true) → length front ≤ m → i ≢ q
      → (is_even t (length front) q i ≡ true → heard (rounds_upto t m i) (front ++ q ∷ []) ≡ passed)
      → heard (rounds_upto t m i) (front ++ q ∷ []) ≡ or_passed (says_of form x links i (front ++ q ∷ [])) passed
  passes_on i q front passed on within short ne is = elim (cases_Bool (is_even t (length front) q i)) [
    | inl even ↦ is even ∙ sym (ap (λ (o : Option (Wrapped V)). or_passed o passed) (says_even t m x.awake i q front even))
    | inr un ↦ sym (ap (λ (o : Option (Wrapped V)). or_passed o passed) (says_heard t m x.awake i q front un (asked_if t m x.awake i q front on within short ne)))
  ]

  module _ (members : List ℕ) (go : (i : ℕ) → has_id x.awake i ≡ true → members_at x i ≡ members) where
    abbrev w : World V
    w = world_in form x links members

    mine : (i q : ℕ) → has_id x.awake i ≡ true → has_id members q ≡ true → has_id (members_at x i) q ≡ true
    mine i q on member = ap (λ (ms : List ℕ). has_id ms q) (go i on) ∙ member

    told_on : (c i : ℕ) → has_id members c ≡ true → has_id x.awake i ≡ true → c ≢ i → w.heard i (c ∷ []) ≡ or_passed (says_of form x links i (c ∷ [])) (own_in x links c)
    told_on c i member on ne =
        passes_on i c [] (own_in x links c) on (within_one (members_at x i) c (mine i c on member)) (omega arith) (λ e. ne (sym e))
        (λ even. heard_even form first tells cells in_range made fits x (item_of links) h.set h.sys h.run c i (in_use x h.set i c (mine i c on member)) (h.set.awake i on) even)

    -- what a node passes on, which another one reads by the same members
    passed_is : (c q i : ℕ) (back : List ℕ) → has_id x.awake i ≡ true → place_in (paths_of (members_at x i) (length (c ∷ back)) q) (c ∷ back) < length (paths_of (members_at x i) (length (c ∷ back)) q)
        → passed_on (heard (rounds_upto t m q)) (source (has_id x.full q) (members_at x q) (members_at x i) q (c ∷ back)) ≡ own_term (ear w q) (c ∷ back)
    passed_is c q i back on placed = elim (cases_Bool (has_id x.full q)) [
      | inl f ↦
          ap (passed_on (heard (rounds_upto t m q))) (source_same (has_id x.full q) (members_at x q) (members_at x i) q (c ∷ back) f (go q (h.set.full q f) ∙ sym (go i on)) placed)
          ∙ sym (cond-true (has_id x.full q) (wrapped (heard (rounds_upto t m q) (c ∷ back))) (Fault 0) f)
      | inr n ↦
          ap (passed_on (heard (rounds_upto t m q))) (cond-false (has_id x.full q) _ None n)
          ∙ sym (cond-false (has_id x.full q) (wrapped (heard (rounds_upto t m q) (c ∷ back))) (Fault 0) n)
    ]

    relayed_on : (c : ℕ) (back : List ℕ) (q i : ℕ) → IsPath members m (c ∷ (back ++ q ∷ [])) → has_id x.awake i ≡ true → has_id (c ∷ (back ++ q ∷ [])) i ≡ false
        → w.heard i (c ∷ (back ++ q ∷ [])) ≡ or_passed (says_of form x links i (c ∷ (back ++ q ∷ []))) (own_term (ear w q) (c ∷ back))
    relayed_on c back q i path on off =
        let front : List ℕ = c ∷ back in
        let ne : q ≢ i = (off_longer front q i off).1 in
        let within = λ (k : ℕ) (has : has_id (front ++ q ∷ []) k ≡ true). mine i k on (path.within k has) in
        let short : suc (length back) ≤ m = let s = path.short in omega (arith, length_push front q) in
        let on_q : has_id (members_at x i) q ≡ true = within q (has_push front q q ∙ or_right (has_id front q) _ (eq-eqb q q refl)) in
        let asked : IsAsked t m x.awake i (front ++ q ∷ []) = record { awake_is = on; within = within; short = path.short; other = λ e. ne (sym (e ∙ last_push front q)) } in
        let off_q = split_off front q path.distinct in
        let placed = placed_in x.config.now.nodes (few_nodes x h.set) (members_at x i) (h.set.members i) q on_q front (front_distinct front q path.distinct) (front_on t m x.awake i q front asked off_q) in
        passes_on i q front (own_term (ear w q) front) on within short (λ e. ne (sym e))
        (λ even.
        heard_relay_even form first tells cells in_range made fits x (item_of links) h.set h.sys h.run i q (length back) front refl short (in_use x h.set i q on_q) (h.set.awake i on) even placed
        ∙ passed_is c q i back on placed)

    passed_on_is : (c : ℕ) → has_id members c ≡ true → IsPassedOn (world_in form x links members) (λ i. has_id x.awake i) c x.full (own_in x links c) (says_of form x links)
    passed_on_is c member = record {
      full_are = λ q either. refl;
      awake = λ q on full. h.set.full q full;
      told = λ i on ne. told_on c i member on ne;
      relays = λ back q i path on off. relayed_on c back q i path on off;
    }

  pub are_passed_on : ArePassedOn form x links
  are_passed_on members go c member = passed_on_is members go c member

-- what holds of each member that is left to look at, or was
pub left_more : (P : ℕ → Type 0) (members left rest : List ℕ) (q : ℕ) → left ≡ q ∷ rest → (has_id members q ≡ true → P q)
    → ((k : ℕ) → has_id members k ≡ true → (has_id left k ≡ true) ⊎ P k) → (k : ℕ) → has_id members k ≡ true → (has_id rest k ≡ true) ⊎ P k
left_more P members left rest q steps here all k on = elim (all k on) [
  | inl remains ↦ elim (or_cases (q == k) (has_id rest k) (ap (λ (ys : List ℕ). has_id ys k) (sym steps) ∙ remains)) [
    | inl is ↦ let e : q ≡ k = eqb-true q k is in inr (subst P e (here (ap (has_id members) e ∙ on)))
    | inr later ↦ inl later
  ]
  | inr was ↦ inr was
]

pub left_none : (P : ℕ → Type 0) (members left : List ℕ) → left ≡ [] → ((k : ℕ) → has_id members k ≡ true → (has_id left k ≡ true) ⊎ P k) → (k : ℕ) → has_id members k ≡ true → P k
left_none P members left ends all k on = elim (all k on) [
  | inl remains ↦ absurd (both_ways _ (ap (λ (ys : List ℕ). has_id ys k) ends) remains)
  | inr was ↦ was
]
