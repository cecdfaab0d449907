-- What a table is seen as, after each of its calls.
use Rattle.std.proofs.Common.{ℕ, zero, suc, ◌≡◌, ◌≢◌, ◌<◌, ◌≤◌, ◌+◌, ◌-◌, ◌==◌, Bool, true, false, List, [], ◌∷◌, length, map, get_or, set, refl, sym, ap, ap₂, subst, ◌∙◌, inl, inr, arith, eq-eqb, ne_eqb, append-nil, take, drop, ◌++◌, replicate}
use Rattle.std.specs.Prelude.{All, filter, if◌then◌else◌}
use Rattle.std.proofs.lemmas.Bool.{cases_eq, cond-true, cond-false}
use Rattle.std.proofs.lemmas.List.{get_or_default, length-set, get_or-set_same, get_or-set_other, take_all, drop_all, take-append-le, length-replicate}
use Rattle.std.proofs.lemmas.List.Elements.{All-get_or, All-from_get_or, All-replicate}
use Rattle.node_grid.specs.Capacity.{IsCapacity}
use Rattle.node_grid.specs.NodeSet.{has_id, IsIdSet, ids_below}
use Rattle.node_grid.specs.Count.{Distinct}
use Rattle.omh_paths.specs.declared.wrapped.Wrapped.{Wrapped}
use Rattle.omh_paths.specs.declared.wrapped.Wrapped.TheVariants.{Fault}
use Rattle.omh_paths.specs.MemberLaws.{Distinct-ids}
use Rattle.omh.specs.Omh.{settled_at, settled_from}
use Rattle.omh.specs.Heard.{Hearing, Entry, heard_in, ear_of, with_heard, nothing_heard}
use Rattle.omh.specs.HeardLaws.{IsHeardPath, IsHeardPath-root, heard_in-at, settled_as}
use Rattle.omh.specs.Flat.{section_at, flat_place, flat_heard, heard_flat, flat_ear, forgotten, IsStation, IsRoom}
use Rattle.omh.proofs.Flats.{flat_put, flat_place-lt, flat_forgotten, length-forgotten, few_below, get_or-forgotten}

-- what the fields are seen as
abbrev pub hearing : {V : Type 0} → ℕ → ℕ → List ℕ → ℕ → Bool → Wrapped V → List (Wrapped V) → Hearing V
hearing nodes rounds members me full own flat = record { nodes = nodes; rounds = rounds; members = members; me = me; full = full; own = own; heard = heard_flat nodes rounds members me flat }

module _ {V : Type 0} (capacity nodes rounds : ℕ) (members : List ℕ) (count me : ℕ) (full : Bool) (own : Wrapped V) (flat work : List (Wrapped V)) (h : Hearing V)
    (view : hearing nodes rounds members me full own flat ≡ h) (station : IsStation capacity nodes rounds members count) (room : IsRoom nodes rounds flat work) where
  real_path : (path : List ℕ) → Distinct path → 0 < length path → ((q : ℕ) → has_id path q ≡ true → has_id h.members q ≡ true) → has_id path h.me ≡ false → length path ≤ h.rounds + 1 → IsHeardPath members me rounds path
  real_path path d some within off short = record {
    distinct = d;
    within = λ q on. ap (λ (k : Hearing V). has_id k.members q) view ∙ within q on;
    other = ap (λ (k : Hearing V). has_id path k.me) view ∙ off;
    some = some;
    short = omega (arith, ap (λ (k : Hearing V). k.rounds) view);
  }

  pub members_seen : (path : List ℕ) → ((q : ℕ) → has_id path q ≡ true → has_id h.members q ≡ true) → (q : ℕ) → has_id path q ≡ true → has_id members q ≡ true
  members_seen path within q on = ap (λ (k : Hearing V). has_id k.members q) view ∙ within q on

  pub member_seen : (q : ℕ) → has_id h.members q ≡ true → has_id members q ≡ true
  member_seen q on = ap (λ (k : Hearing V). has_id k.members q) view ∙ on

  pub short_seen : (n : ℕ) → n ≤ h.rounds + 1 → n ≤ rounds + 1
  short_seen n short = omega (arith, ap (λ (k : Hearing V). k.rounds) view)

  pub place_low : (place len : ℕ) → place < section_at nodes (rounds + 1) → len ≡ length flat → place < len
  place_low place len low e = omega (arith, room.flat_ok)

  pub room_seen : (seen used : List (Wrapped V)) → seen ≡ flat → used ≡ work → IsRoom nodes rounds seen used
  room_seen seen used a b = record {
    flat_ok = ap length a ∙ room.flat_ok;
    work_ok = ap length b ∙ room.work_ok;
    known = subst (λ (ts : List (Wrapped V)). All (λ x. x ≢ Fault 255) ts) (sym a) room.known;
  }

  pub room_after : (used new : List (Wrapped V)) (n : ℕ) → n ≡ length work → used ≡ work → length new ≡ length used → IsRoom nodes rounds flat (take n (new ++ drop (length new) work))
  room_after used new n len e same = record {
    flat_ok = room.flat_ok;
    work_ok = ap length (take-append-le n new (drop (length new) work) (omega (arith, ap length e)) ∙ take_all n new (omega (arith, ap length e))) ∙ same ∙ ap length e ∙ room.work_ok;
    known = room.known;
  }

  distinct_members : Distinct members
  distinct_members = Distinct-ids capacity members station.members_ok

  pub put_seen : (path : List ℕ) (value : Wrapped V) (place : ℕ) → Distinct path → 0 < length path → ((q : ℕ) → has_id path q ≡ true → has_id h.members q ≡ true) → has_id path h.me ≡ false → length path ≤ h.rounds + 1
      → place ≡ flat_place nodes members path
      → hearing nodes rounds members me full own (set flat place value) ≡ record h { heard = map (with_heard path value) h.heard }
  put_seen path value place d some within off short at =
      ap (λ (k : ℕ). hearing nodes rounds members me full own (set flat k value)) at
      ∙ ap (λ (es : List (Entry V)). record { nodes = nodes; rounds = rounds; members = members; me = me; full = full; own = own; heard = es })
      (flat_put nodes members me rounds distinct_members (omega (arith, station.count_ok, station.few_ok)) flat path value room.flat_ok (real_path path d some within off short))
      ∙ ap (λ (k : Hearing V). record k { heard = map (with_heard path value) k.heard }) view

  pub put_room : (place : ℕ) (value : Wrapped V) → place < section_at nodes (rounds + 1) → value ≢ Fault 255 → IsRoom nodes rounds (set flat place value) work
  put_room place value low known = record {
    flat_ok = length-set flat place value ∙ room.flat_ok;
    work_ok = room.work_ok;
    known = All-from_get_or (λ (x : Wrapped V). x ≢ Fault 255) (set flat place value) (Fault 0) (λ i l. elim (cases_eq i place) [
      | inl e ↦ λ k. known (sym (get_or-set_same flat place value (Fault 0) (omega (arith, room.flat_ok))) ∙ ap (λ (n : ℕ). get_or (set flat place value) n (Fault 0)) (sym e) ∙ k)
      | inr ne ↦ λ k. All-get_or (λ (x : Wrapped V). x ≢ Fault 255) flat i (Fault 0) (omega (arith, length-set flat place value)) room.known (sym (get_or-set_other flat place i value (Fault 0) ne) ∙ k)
    ]);
  }

  pub heard_seen : (path : List ℕ) (item : Wrapped V) (place : ℕ) → Distinct path → 0 < length path → ((q : ℕ) → has_id path q ≡ true → has_id h.members q ≡ true) → has_id path h.me ≡ false → length path ≤ h.rounds + 1
      → place ≡ flat_place nodes members path → item ≡ get_or flat place item → item ≡ heard_in h.heard path
  heard_seen path item place d some within off short at is =
      let real = real_path path d some within off short in
      let low : place < length flat = omega (arith, flat_place-lt nodes members me rounds distinct_members (omega (arith, station.count_ok, station.few_ok)) path real, room.flat_ok) in
      is ∙ get_or_default flat place item (Fault 0) low ∙ ap (λ (k : ℕ). get_or flat k (Fault 0)) at
      ∙ sym (heard_in-at (flat_heard nodes members flat) members me rounds path distinct_members real) ∙ ap (λ (k : Hearing V). heard_in k.heard path) view

  pub start_seen : (others : List ℕ) (node : ℕ) (is_full : Bool) (item : Wrapped V) → hearing nodes rounds others node is_full item (forgotten flat)
      ≡ record { nodes = h.nodes; rounds = h.rounds; members = others; me = node; full = is_full; own = item; heard = nothing_heard others node h.rounds }
  start_seen others node is_full item =
      ap (λ (es : List (Entry V)). record { nodes = nodes; rounds = rounds; members = others; me = node; full = is_full; own = item; heard = es }) (flat_forgotten nodes rounds others node flat)
      ∙ ap (λ (k : Hearing V). record { nodes = k.nodes; rounds = k.rounds; members = others; me = node; full = is_full; own = item; heard = nothing_heard others node k.rounds }) view

  pub start_station : (others : List ℕ) (size : ℕ) → IsIdSet capacity others → size ≡ length others → ((q : ℕ) → has_id others q ≡ true → q < h.nodes) → IsStation capacity nodes rounds others size
  start_station others size ids is low = record {
    capacity_ok = station.capacity_ok;
    nodes_ok = station.nodes_ok;
    rounds_ok = station.rounds_ok;
    members_ok = ids;
    count_ok = is;
    few_ok = omega (arith, few_below nodes others (Distinct-ids capacity others ids) (λ q on. let l = low q on in omega (arith, ap (λ (k : Hearing V). k.nodes) view)));
  }

  pub start_room : IsRoom nodes rounds (forgotten flat) work
  start_room = record {
    flat_ok = length-forgotten flat ∙ room.flat_ok;
    work_ok = room.work_ok;
    known = All-from_get_or (λ (x : Wrapped V). x ≢ Fault 255) (forgotten flat) (Fault 0) (λ i l k. cc (get_or-forgotten flat i));
  }

  -- as the code leaves it
  pub start_seen_as : (others : List ℕ) (node : ℕ) (is_full : Bool) (item : Wrapped V) (now : List (Wrapped V)) → now ≡ forgotten flat → hearing nodes rounds others node is_full item now
      ≡ record { nodes = h.nodes; rounds = h.rounds; members = others; me = node; full = is_full; own = item; heard = nothing_heard others node h.rounds }
  start_seen_as others node is_full item now e = ap (λ (ts : List (Wrapped V)). hearing nodes rounds others node is_full item ts) e ∙ start_seen others node is_full item

  pub start_room_as : (now : List (Wrapped V)) → now ≡ forgotten flat → IsRoom nodes rounds now work
  start_room_as now e = subst (λ (ts : List (Wrapped V)). IsRoom nodes rounds ts work) (sym e) start_room

  -- what is settled for its own item
  pub own_settled : (eq : V → V → Bool) (c : ℕ) (value : Wrapped V) → c ≡ me → value ≡ (if full then own else Fault 0) → value ≡ settled_from eq (ear_of h) h.own c
  own_settled eq c value e v =
      v ∙ sym (cond-true (c == me) (if full then own else Fault 0) (settled_at eq (ear_of (hearing nodes rounds members me full own flat)) (c ∷ [])) (eq-eqb c me e))
      ∙ ap (λ (k : Hearing V). settled_from eq (ear_of k) k.own c) view

  -- and for that of another member
  pub other_settled : (eq : V → V → Bool) (c : ℕ) (value : Wrapped V) → c ≢ me → has_id h.members c ≡ true → value ≡ settled_at eq (flat_ear nodes rounds members me full flat) (c ∷ [])
      → value ≡ settled_from eq (ear_of h) h.own c
  other_settled eq c value ne on v =
      let member : has_id members c ≡ true = ap (λ (k : Hearing V). has_id k.members c) view ∙ on in
      v ∙ settled_as eq (flat_ear nodes rounds members me full flat) (heard_in (heard_flat nodes rounds members me flat))
      (λ p real. sym (heard_in-at (flat_heard nodes members flat) members me rounds p distinct_members real)) (c ∷ []) (IsHeardPath-root rounds c member ne)
      ∙ sym (cond-false (c == me) (if full then own else Fault 0) (settled_at eq (ear_of (hearing nodes rounds members me full own flat)) (c ∷ [])) (ne_eqb c me ne))
      ∙ ap (λ (k : Hearing V). settled_from eq (ear_of k) k.own c) view

-- a whole list that was written through a slice
pub written_back : {V : Type 0} (was seen new : List (Wrapped V)) (n : ℕ) → n ≡ length was → seen ≡ was → new ≡ forgotten seen → take n (new ++ drop (length new) was) ≡ forgotten was
written_back {V} was seen new n len s e =
    let f : new ≡ forgotten was = e ∙ ap forgotten s in
    let long : length new ≡ length was = ap length f ∙ length-forgotten was in
    ap (λ (ts : List (Wrapped V)). take n (new ++ ts)) (drop_all (length new) was (omega arith)) ∙ ap (take n) (append-nil new) ∙ take_all n new (omega arith) ∙ f

-- a table as it is opened
none_kept : (xs : List ℕ) → [] ≡ filter (λ k. has_id [] k) xs
none_kept [] = refl
none_kept (x ∷ xs) = none_kept xs

blank : {V : Type 0} (n : ℕ) → replicate {A = Wrapped V} n (Fault 0) ≡ forgotten (replicate n (Fault 0))
blank zero = refl
blank (suc n) = ap (λ ts. Fault 0 ∷ ts) (blank n)

pub opened_station : (capacity nodes rounds : ℕ) (members : List ℕ) → IsCapacity capacity → nodes ≤ capacity → rounds ≤ 3 → members ≡ [] → IsStation capacity nodes rounds members 0
opened_station capacity nodes rounds members fits low few e = record {
  capacity_ok = fits;
  nodes_ok = low;
  rounds_ok = few;
  members_ok = subst (λ (s : List ℕ). IsIdSet capacity s) (sym e) (none_kept (ids_below capacity));
  count_ok = sym (ap length e);
  few_ok = omega arith;
}

pub opened_room : {V : Type 0} (nodes rounds a b : ℕ) (flat work : List (Wrapped V)) → flat ≡ replicate a (Fault 0) → work ≡ replicate (1 + b) (Fault 0) → a ≡ section_at nodes (rounds + 1) → b ≡ section_at (nodes - 1) rounds
    → IsRoom nodes rounds flat work
opened_room {V} nodes rounds a b flat work f w at after = record {
  flat_ok = ap length f ∙ length-replicate a (Fault 0) ∙ at;
  work_ok = ap length w ∙ length-replicate (1 + b) (Fault 0) ∙ ap (λ (k : ℕ). 1 + k) after;
  known = subst (λ (ts : List (Wrapped V)). All (λ x. x ≢ Fault 255) ts) (sym f) (All-replicate (λ (x : Wrapped V). x ≢ Fault 255) a (Fault 0) (λ k. cc));
}

pub opened_seen : {V : Type 0} (nodes rounds a : ℕ) (members : List ℕ) (flat : List (Wrapped V)) → members ≡ [] → flat ≡ replicate a (Fault 0)
    → hearing nodes rounds members 0 false (Fault 0) flat ≡ record { nodes = nodes; rounds = rounds; members = []; me = 0; full = false; own = Fault 0; heard = nothing_heard [] 0 rounds }
opened_seen {V} nodes rounds a members flat e f =
    ap₂ (λ (s : List ℕ) (ts : List (Wrapped V)). hearing nodes rounds s 0 false (Fault 0) ts) e (f ∙ blank a)
    ∙ ap (λ (es : List (Entry V)). record { nodes = nodes; rounds = rounds; members = []; me = 0; full = false; own = Fault 0; heard = es }) (flat_forgotten nodes rounds [] 0 (replicate a (Fault 0)))
