-- What is settled, and who is convicted, after the last round.
use Rattle.std.proofs.Common.{ℕ, zero, suc, ◌≡◌, ◌≢◌, ◌<◌, ◌≤◌, ◌==◌, ◌&&◌, Bool, true, false, not, if◌then◌else◌, List, [], ◌∷◌, length, map, None, refl, sym, subst, ap, ap₂, ◌∙◌, inl, inr, arith, lt-ltb, le-ltb}
use Rattle.std.specs.Prelude.{nat_lt}
use Rattle.std.proofs.lemmas.Bool.{cases_Bool, cases_lt, cond-true, cond-false}
use Rattle.node_grid.specs.NodeSet.{has_id, ids_where, ids_below}
use Rattle.node_grid.specs.NodeSetLaws.{filter_range}
use Rattle.node_grid.specs.Count.{Distinct}
use Rattle.omh_paths.specs.declared.wrapped.Wrapped.{Wrapped}
use Rattle.omh_paths.specs.declared.wrapped.Wrapped.TheVariants.{Fault}
use Rattle.omh_paths.specs.Paths.{same_nodes}
use Rattle.omh_paths.specs.PathLists.{same_nodes-tells}
use Rattle.omh.specs.Omh.{settled_from}
use Rattle.omh.specs.Heard.{Entry, Hearing, heard_in, ear_of, forgotten}
use Rattle.equivocation.specs.Conviction.{convicts}
use Rattle.equivocation.specs.ConvictionLaws.{convicts_alike}
use Rattle.error_detect.specs.Watching.{Watch}
use Rattle.protocol.specs.Arrival.{ItemForm}
use Rattle.protocol.specs.FurtherKinds.{convicts_member}
use Rattle.protocol.specs.Heard.{heard}
use Rattle.protocol.specs.Settled.{plain}
use Rattle.relay_rules.specs.Hearing.{has_path, told_to, all_told, slot_rounds, after_round}
use Rattle.relay_rules.specs.HearingLaws.{length_all}
use Rattle.relay_rules.specs.Settling.{settled_at_node, settled_in}
use Rattle.relay_table.specs.Tabled.{kept_nodes}
use Rattle.relay_table.specs.Tabled.{settled_in as settled_terms}
use Rattle.relaying.specs.Told.{IsRoundHeard, IsHeardWhereKept}
use Rattle.relaying.proofs.Putting.{two_maps}

pub last_kept : (m : ℕ) → m < 2 → m < kept_nodes m
last_kept zero h = omega arith
last_kept (suc zero) h = omega arith
last_kept (suc (suc m)) h = absurd (omega (arith, h))

-- ---- paths of which a round doesn't tell

elsewhere : {V : Type 0} (ps : List (List ℕ)) (f : List ℕ → Wrapped V) (es : List (Entry V)) (p : List ℕ) → has_path ps p ≡ false → heard_in (map (told_to ps f) es) p ≡ heard_in es p
elsewhere ps f [] p off = refl
elsewhere ps f (e ∷ es) p off = elim (cases_Bool (same_nodes e.path p)) [
  | inl y ↦
      let is : e.path ≡ p = same_nodes-tells e.path p y in
      cond-true (same_nodes e.path p) (if has_path ps e.path then f e.path else e.value) (heard_in (map (told_to ps f) es) p) y
      ∙ cond-false (has_path ps e.path) (f e.path) e.value (ap (has_path ps) is ∙ off)
      ∙ sym (cond-true (same_nodes e.path p) e.value (heard_in es p) y)
  | inr n ↦
      cond-false (same_nodes e.path p) (if has_path ps e.path then f e.path else e.value) (heard_in (map (told_to ps f) es) p) n
      ∙ elsewhere ps f es p off
      ∙ sym (cond-false (same_nodes e.path p) e.value (heard_in es p) n)
]

not_told : (members : List ℕ) (me r n : ℕ) (p : List ℕ) → Distinct members → length p ≢ suc r → has_path (all_told members me r n) p ≡ false
not_told members me r n p d ne = elim (cases_Bool (has_path (all_told members me r n) p)) [
  | inl y ↦ absurd (ne (length_all members me r n p d y))
  | inr off ↦ off
]

module _ {V : Type 0} (eq : V → V → Bool) (form : ItemForm V) (w : Watch) where
  -- convictions look at paths of one and two nodes
  same_convicted : (n r : ℕ) (h : Hearing V) (c : ℕ) → Distinct h.members → 2 ≤ r → convicts eq (ear_of h) c ≡ convicts eq (ear_of (after_round form n w r h)) c
  same_convicted n r h c d late =
      let ps : List (List ℕ) = all_told h.members h.me r n in
      let f : List ℕ → Wrapped V = heard (slot_rounds form h.members w) in
      convicts_alike eq (ear_of h) (ear_of (after_round form n w r h)) c refl refl refl refl
      (sym (elsewhere ps f h.heard (c ∷ []) (not_told h.members h.me r n (c ∷ []) d (λ e. omega (arith, e, late)))))
      (λ q on off. sym (elsewhere ps f h.heard (c ∷ q ∷ []) (not_told h.members h.me r n (c ∷ q ∷ []) d (λ e. omega (arith, e, late)))))

  abbrev guilty : ℕ → Hearing V → List ℕ
  guilty capacity h = ids_where (λ j. not (j == h.me) && convicts_member eq (ear_of h) j) capacity

  pub guilty_last : (capacity : ℕ) (was now : Hearing V) → Distinct was.members → IsHeardWhereKept form w was now → guilty capacity now ≡ guilty capacity (after_round form was.nodes w was.rounds was)
  guilty_last capacity was now d h = elim (cases_lt was.rounds 2) [
    | inl low ↦ ap (guilty capacity) (h ∙ cond-true (nat_lt was.rounds 2) (after_round form was.nodes w was.rounds was) was (lt-ltb was.rounds 2 low))
    | inr late ↦
        ap (guilty capacity) (h ∙ cond-false (nat_lt was.rounds 2) (after_round form was.nodes w was.rounds was) was (le-ltb was.rounds 2 late))
        ∙ filter_range (λ j. not (j == was.me) && convicts_member eq (ear_of was) j) (λ j. not (j == was.me) && convicts_member eq (ear_of (after_round form was.nodes w was.rounds was)) j) 0 capacity
        (λ j above below. ap (λ (b : Bool). not (j == was.me) && (has_id was.members j && b)) (same_convicted was.nodes was.rounds was j d late))
  ]

  -- a round heard twice is heard once
  told_twice : (ps : List (List ℕ)) (f : List ℕ → Wrapped V) (e : Entry V) → told_to ps f (told_to ps f e) ≡ told_to ps f e
  told_twice ps f e = ap (λ (u : Wrapped V). record { path = e.path; value = u }) (choice (has_path ps e.path)) where
    choice : (b : Bool) → (if b then f e.path else (if b then f e.path else e.value)) ≡ (if b then f e.path else e.value)
    choice true = refl
    choice false = refl

  pub heard_last : (was now : Hearing V) → IsHeardWhereKept form w was now → after_round form now.nodes w now.rounds now ≡ after_round form was.nodes w was.rounds was
  heard_last was now h = elim (cases_lt was.rounds 2) [
    | inl low ↦
        let ps : List (List ℕ) = all_told was.members was.me was.rounds was.nodes in
        let f : List ℕ → Wrapped V = heard (slot_rounds form was.members w) in
        ap (λ (x : Hearing V). after_round form x.nodes w x.rounds x) (h ∙ cond-true (nat_lt was.rounds 2) (after_round form was.nodes w was.rounds was) was (lt-ltb was.rounds 2 low))
        ∙ ap (λ (es : List (Entry V)). record was { heard = es }) (two_maps (told_to ps f) (told_to ps f) (told_to ps f) was.heard (told_twice ps f))
    | inr late ↦ ap (λ (x : Hearing V). after_round form x.nodes w x.rounds x) (h ∙ cond-false (nat_lt was.rounds 2) (after_round form was.nodes w was.rounds was) was (le-ltb was.rounds 2 late))
  ]

  -- where no round is relayed all was heard
  pub heard_first : (was now : Hearing V) → IsHeardWhereKept form w was now → now.rounds ≡ 0 → now ≡ after_round form was.nodes w was.rounds was
  heard_first was now h none = elim (cases_lt was.rounds 2) [
    | inl low ↦ h ∙ cond-true (nat_lt was.rounds 2) (after_round form was.nodes w was.rounds was) was (lt-ltb was.rounds 2 low)
    | inr late ↦ absurd (let e : now.rounds ≡ was.rounds = ap (λ (x : Hearing V). x.rounds) (h ∙ cond-false (nat_lt was.rounds 2) (after_round form was.nodes w was.rounds was) was (le-ltb was.rounds 2 late)) in omega (arith, e, none, late))
  ]

  -- who watches stays the same, and so does what is left once all is forgotten
  pub still_heard : (capacity kind : ℕ) (was now : Hearing V) → IsHeardWhereKept form w was now → IsRoundHeard capacity kind was.rounds was w → IsRoundHeard capacity kind now.rounds now w
  still_heard capacity kind was now h x = elim (cases_lt was.rounds 2) [
    | inl low ↦
        subst (λ (y : Hearing V). IsRoundHeard capacity kind y.rounds y w) (sym (h ∙ cond-true (nat_lt was.rounds 2) (after_round form was.nodes w was.rounds was) was (lt-ltb was.rounds 2 low)))
        (record {
          closed = x.closed;
          slot = λ some e is. let s = x.slot some e is in record { capacity_is = s.capacity_is; kind_is = s.kind_is; round_is = s.round_is; nodes_are = s.nodes_are; members_are = s.members_are };
        })
    | inr late ↦ subst (λ (y : Hearing V). IsRoundHeard capacity kind y.rounds y w) (sym (h ∙ cond-false (nat_lt was.rounds 2) (after_round form was.nodes w was.rounds was) was (le-ltb was.rounds 2 late))) x
  ]

  pub same_forgotten : (was now : Hearing V) → IsHeardWhereKept form w was now → forgotten now ≡ forgotten was
  same_forgotten was now h = elim (cases_lt was.rounds 2) [
    | inl low ↦ ap forgotten (h ∙ cond-true (nat_lt was.rounds 2) (after_round form was.nodes w was.rounds was) was (lt-ltb was.rounds 2 low))
    | inr late ↦ ap forgotten (h ∙ cond-false (nat_lt was.rounds 2) (after_round form was.nodes w was.rounds was) was (le-ltb was.rounds 2 late))
  ]

-- ---- settled terms as items

pub plain_settled : {V : Type 0} (eq : V → V → Bool) (capacity : ℕ) (h : Hearing V) → map plain (settled_terms eq capacity h) ≡ settled_in eq capacity h
plain_settled {V} eq capacity h = each (ids_below capacity) where
  one : (c : ℕ) → plain (if has_id h.members c then settled_from eq (ear_of h) h.own c else Fault 0) ≡ settled_at_node eq h c
  one c = elim (cases_Bool (has_id h.members c)) [
    | inl on ↦ ap plain (cond-true (has_id h.members c) (settled_from eq (ear_of h) h.own c) (Fault 0) on) ∙ sym (cond-true (has_id h.members c) (plain (settled_from eq (ear_of h) h.own c)) None on)
    | inr off ↦ ap plain (cond-false (has_id h.members c) (settled_from eq (ear_of h) h.own c) (Fault 0) off) ∙ sym (cond-false (has_id h.members c) (plain (settled_from eq (ear_of h) h.own c)) None off)
  ]

  each : (cs : List ℕ) → map plain (map (λ c. if has_id h.members c then settled_from eq (ear_of h) h.own c else Fault 0) cs) ≡ map (settled_at_node eq h) cs
  each [] = refl
  each (c ∷ cs) = ap₂ ◌∷◌ (one c) (each cs)
