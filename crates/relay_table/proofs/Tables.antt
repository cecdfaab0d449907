-- What a table is seen as, after each of its calls.
use Rattle.std.proofs.Common.{ℕ, zero, suc, ◌≡◌, ◌<◌, ◌≤◌, ◌+◌, ◌-◌, ◌==◌, Bool, true, false, List, [], ◌∷◌, ◌++◌, map, length, take, drop, get_or, replicate, refl, sym, ap, ap₂, subst, ◌∙◌, inl, inr, arith, append-nil, eq-eqb}
use Rattle.std.specs.Prelude.{Option, if◌then◌else◌}
use Rattle.std.proofs.lemmas.Bool.{cases_Bool, cond-true, cond-false, both_ways}
use Rattle.std.proofs.lemmas.List.{take_all, drop_all, length-map, length-take, length-drop, ext_get_or, get_or-take, get_or-drop, get_or-map, length-replicate}
use Rattle.node_grid.specs.Capacity.{IsCapacity}
use Rattle.node_grid.specs.NodeSetLaws.{filter_none}
use Rattle.node_grid.specs.NodeSet.{has_id, without_id, ids_below, IsIdSet}
use Rattle.node_grid.specs.SetFacts.{has-without}
use Rattle.omh_paths.specs.declared.wrapped.Wrapped.{Wrapped}
use Rattle.omh_paths.specs.declared.wrapped.Wrapped.TheVariants.{Plain, Fault}
use Rattle.omh_paths.specs.Paths.{paths_of_length, path_count, index_in}
use Rattle.omh_paths.specs.PathLists.{index_in-lt, IsListed-at, length-paths}
use Rattle.omh.specs.Omh.{Ear, settled_from, settled_at, settled_within}
use Rattle.omh.specs.Heard.{Entry, Hearing, ear_of, heard_in, nothing_heard, forgotten}
use Rattle.omh.specs.Flat.{section_at}
use Rattle.relay_terms.specs.declared.term.Term.{Term}
use Rattle.relay_terms.specs.Terms.{said}
use Rattle.relay_walk.specs.declared.round.Round.{Round}
use Rattle.relay_walk.specs.Laid.{laid}
use Rattle.relay_walk.specs.Walking.{IsWalk}
use Rattle.relay_table.specs.declared.station.Station.{Station}
use Rattle.relay_table.specs.Free.{free_begins, AreFree}
use Rattle.relay_table.specs.Rooms.{IsRoom, IsFreeRoom}
use Rattle.relay_table.specs.Settling.{IsSeated, IsKeptBy, IsHeardBy, IsToldLast, AreSettled, hearing_of, other_path, settled_at_place}
use Rattle.relay_table.specs.Tabled.{IsStation, AreKnown, kept_nodes, unstarted, heard_among, started, others_in, told_in, after_frames, settled_in}
use Rattle.relay_table.proofs.Frees.{one_more, none_free}
use Rattle.relay_table.proofs.HeardView.{heard_laid, heard_nothing, heard_at, hears_after, hears_last_after, hears_now}
use Rattle.relay_table.proofs.Known.{known_nothing}
use Rattle.relay_table.proofs.Apart.{settles_last}
use Rattle.relay_table.proofs.Stations.{others_distinct, root_path, begins_within}

-- a whole list that was written through a slice
pub written_to : {X : Type 0} (was seen new : List X) (n : ℕ) → n ≡ length was → seen ≡ was → length new ≡ length seen → take n (new ++ drop (length new) was) ≡ new
written_to {X} was seen new n len is same =
    let long : length new ≡ length was = same ∙ ap length is in
    ap (λ (xs : List X). take n (new ++ xs)) (drop_all (length new) was (omega arith)) ∙ ap (take n) (append-nil new) ∙ take_all n new (omega arith)

-- and so of terms of which no error was wrapped often
pub room_written : {V : Type 0} (nodes rounds : ℕ) (was seen new settled : List (Term V)) (n : ℕ) → IsRoom nodes rounds was settled → n ≡ length was → seen ≡ was → length new ≡ length seen → AreKnown (map said new)
    → IsRoom nodes rounds (take n (new ++ drop (length new) was)) settled
room_written {V} nodes rounds was seen new settled n room len is same known =
    let here : IsRoom nodes rounds new settled =
    record { heard_ok = same ∙ ap (λ (ts : List (Term V)). length ts) is ∙ room.heard_ok; settled_ok = room.settled_ok; known = known } in
    subst (λ (ts : List (Term V)). IsRoom nodes rounds ts settled) (sym (written_to was seen new n len is same)) here

pub kept-some : (m : ℕ) → 1 ≤ kept_nodes m
kept-some zero = omega arith
kept-some (suc zero) = omega arith
kept-some (suc (suc m)) = omega arith

module _ {V : Type 0} {n : ℕ} (s : Station n) (own : Wrapped V) (flat : List (Wrapped V)) (h : Hearing V) (view : hearing_of s own flat ≡ h) (st : IsSeated s) where
  abbrev seen : List (Entry V) → Hearing V
  seen es = record { nodes = s.nodes; rounds = s.rounds; members = s.members; me = s.me; full = s.full; own = own; heard = es }

  pub members_are : s.members ≡ h.members
  members_are = ap (λ (k : Hearing V). k.members) view

  pub rounds_are : s.rounds ≡ h.rounds
  rounds_are = ap (λ (k : Hearing V). k.rounds) view

  pub below_seen : (members : List ℕ) → ((q : ℕ) → has_id members q ≡ true → q < h.nodes) → (q : ℕ) → has_id members q ≡ true → q < s.nodes
  below_seen members low q on = omega (arith, low q on, ap (λ (k : Hearing V). k.nodes) view)

  pub others_are : s.others ≡ others_in h
  others_are = st.others_ok ∙ ap (λ (k : Hearing V). without_id k.members k.me) view

  pub walk_seen : (r : ℕ) (frames : Round n) → IsWalk h.members (others_in h) r 0 frames → IsWalk s.members s.others r 0 frames
  walk_seen r frames walk =
      subst (λ (ms : List ℕ). IsWalk ms s.others r 0 frames) (sym members_are) (subst (λ (os : List ℕ). IsWalk h.members os r 0 frames) (sym others_are) walk)

  pub forgets : (new : List (Wrapped V)) → ((k : ℕ) → get_or new k (Fault 0) ≡ Fault 0) → hearing_of s own new ≡ forgotten h
  forgets new none = ap seen (heard_nothing s.members s.me s.rounds new none) ∙ ap forgotten view

  pub starts : (members : List ℕ) (me : ℕ) (full : Bool) (item : V) (told : Wrapped V) (new : List (Wrapped V)) → told ≡ Plain item → ((k : ℕ) → get_or new k (Fault 0) ≡ Fault 0)
      → record { nodes = s.nodes; rounds = s.rounds; members = members; me = me; full = full; own = told; heard = heard_among members me s.rounds new } ≡ started h members me full (Plain item)
  starts members me full item told new is none =
      ap (λ (es : List (Entry V)). record { nodes = s.nodes; rounds = s.rounds; members = members; me = me; full = full; own = told; heard = es }) (heard_nothing members me s.rounds new none)
      ∙ ap (λ (k : Hearing V). started k members me full told) view
      ∙ ap (started h members me full) is

  pub hears_frames : (frames : ℕ → Option (List (Wrapped V))) (r : ℕ) (new : List (Wrapped V)) → r + 1 ≤ kept_nodes s.rounds → section_at (length s.others) (suc r) ≤ length flat
      → new ≡ laid (section_at (length s.others) r) (map (told_in frames s.members r) (paths_of_length s.others (suc r))) flat → hearing_of s own new ≡ after_frames frames r h
  hears_frames frames r new kept room is =
      let says : List ℕ → Wrapped V = told_in frames s.members r in
      let there = is ∙ ap (λ (os : List ℕ). laid (section_at (length os) r) (map says (paths_of_length os (suc r))) flat) st.others_ok in
      let fits = ap (λ (os : List ℕ). section_at (length os) (suc r)) st.others_ok in
      ap seen (heard_laid n s.members s.me s.rounds r flat new says st.members_ok kept (omega (arith, fits, room)) there)
      ∙ ap (after_frames frames r) view

  -- what is settled of each node's item, from what is settled for the paths of one node
  pub handed : (eq : V → V → Bool) (es : List (Entry V)) (settled : List (Wrapped V)) → AreSettled eq (ear_of (seen es)) s.others 1 settled
      → map (settled_at_place s.members s.others s.me s.full own settled) (ids_below n) ≡ settled_in eq n (seen es)
  handed eq es settled are = ap (λ (f : ℕ → Wrapped V). map f (ids_below n)) (λ i c. each c i)
    where
      x : Ear V
      x = ear_of (seen es)

      other : (c : ℕ) → has_id s.members c ≡ true → (c == s.me) ≡ false → get_or settled (index_in s.others c) (Fault 0) ≡ settled_at eq x (c ∷ [])
      other c on off =
          let there : has_id s.others c ≡ true = ap (λ (os : List ℕ). has_id os c) st.others_ok ∙ has-without s.members s.me c (λ e. both_ways _ off (eq-eqb c s.me e)) on in
          let low = index_in-lt s.others c there in
          are (index_in s.others c) (omega arith) ∙ ap (settled_at eq x) (root_path s.others c (others_distinct st) there)

      each : (c : ℕ) → settled_at_place s.members s.others s.me s.full own settled c ≡ (if has_id s.members c then settled_from eq x own c else Fault 0)
      each c = elim (cases_Bool (has_id s.members c)) [
        | inr gone ↦
            cond-false (has_id s.members c) (if c == s.me then (if s.full then own else Fault 0) else get_or settled (index_in s.others c) (Fault 0)) (Fault 0) gone
            ∙ sym (cond-false (has_id s.members c) (settled_from eq x own c) (Fault 0) gone)
        | inl on ↦
            cond-true (has_id s.members c) (if c == s.me then (if s.full then own else Fault 0) else get_or settled (index_in s.others c) (Fault 0)) (Fault 0) on
            ∙ elim (cases_Bool (c == s.me)) [
              | inl mine ↦
                  cond-true (c == s.me) (if s.full then own else Fault 0) (get_or settled (index_in s.others c) (Fault 0)) mine
                  ∙ sym (cond-true (c == s.me) (if s.full then own else Fault 0) (settled_at eq x (c ∷ [])) mine)
              | inr off ↦
                  cond-false (c == s.me) (if s.full then own else Fault 0) (get_or settled (index_in s.others c) (Fault 0)) off
                  ∙ other c on off
                  ∙ sym (cond-false (c == s.me) (if s.full then own else Fault 0) (settled_at eq x (c ∷ [])) off)
            ]
            ∙ sym (cond-true (has_id s.members c) (settled_from eq x own c) (Fault 0) on)
      ]

  -- where nothing is relayed, an item is settled as it was heard
  pub settled_unrelayed : (eq : V → V → Bool) → s.rounds ≡ 0 → AreSettled eq (ear_of (hearing_of s own flat)) s.others 1 flat
  settled_unrelayed eq none k low =
      let path : List ℕ = other_path s.others 1 k in
      let x : Ear V = ear_of (hearing_of s own flat) in
      let long : length path ≡ 1 = (IsListed-at s.others 1 k (others_distinct st) low).long in
      let times : 0 ≡ x.rounds + 1 - length path = omega (arith, none, long) in
      let here : k ≡ section_at (length s.others) (1 - 1) + k = omega arith in
      ap (λ (j : ℕ). get_or flat j (Fault 0)) here
      ∙ sym (heard_at n s.members s.others s.me s.rounds 1 k flat st.members_ok st.others_ok (omega arith) (kept-some s.rounds) low)
      ∙ sym (settles_last eq x path)
      ∙ ap (λ (t : ℕ). settled_within eq x t path) times

  -- what it heard, after the last round's frames and before
  pub kept_by : (frames : ℕ → Option (List (Wrapped V))) → IsKeptBy s flat (ear_of (after_frames frames s.rounds (hearing_of s own flat)))
  kept_by frames = hears_after n s.members s.others s.me s.rounds s.full flat frames (hearing_of s own flat) st.members_ok st.others_ok refl refl refl refl refl

  pub told_last : (frames : ℕ → Option (List (Wrapped V))) → 0 < s.rounds → IsToldLast s frames (ear_of (after_frames frames s.rounds (hearing_of s own flat)))
  told_last frames some = hears_last_after n s.members s.others s.me s.rounds flat frames (hearing_of s own flat) st.members_ok st.others_ok some refl refl

  pub heard_by : IsHeardBy s flat (ear_of (hearing_of s own flat))
  heard_by = hears_now n s.members s.others s.me s.rounds s.full flat (hearing_of s own flat) st.members_ok st.others_ok refl refl refl refl refl

  -- what was heard of the paths of one length
  pub heard_of : (len : ℕ) → 0 < len → len ≤ kept_nodes s.rounds → section_at (length s.others) len ≤ length flat
      → take (path_count (length s.others) len) (drop (section_at (length s.others) (len - 1)) flat) ≡ map (heard_in h.heard) (paths_of_length (others_in h) len)
  heard_of len some low room =
      let begins : ℕ = section_at (length s.others) (len - 1) in
      let many : ℕ = path_count (length s.others) len in
      let paths : List (List ℕ) = paths_of_length s.others len in
      let f : List ℕ → Wrapped V = heard_in (heard_among s.members s.me s.rounds flat) in
      let all = length-paths s.others len (others_distinct st) in
      let fits = (begins_within (length s.others) (length s.others) len begins (length flat) refl refl some room).1 in
      let long : length (take many (drop begins flat)) ≡ many = omega (arith, length-take many (drop begins flat), length-drop begins flat, fits) in
      ext_get_or (Fault 0) (take many (drop begins flat)) (map f paths) (omega (arith, long, all, length-map paths f)) (λ k l.
      let few : k < many = omega (arith, long) in
      get_or-take many (drop begins flat) k (Fault 0) few ∙ get_or-drop begins flat k (Fault 0)
      ∙ sym (heard_at n s.members s.others s.me s.rounds len k flat st.members_ok st.others_ok some low few)
      ∙ sym (get_or-map f paths k [] (Fault 0) (omega (arith, all))))
      ∙ ap (λ (os : List ℕ). map f (paths_of_length os len)) st.others_ok
      ∙ ap (λ (k : Hearing V). map (heard_in k.heard) (paths_of_length (others_in k) len)) view

-- a table as it is opened
pub opened : {V : Type 0} (nodes rounds : ℕ) (members : List ℕ) (own : Wrapped V) (flat : List (Wrapped V)) → members ≡ [] → own ≡ Fault 0 → ((k : ℕ) → get_or flat k (Fault 0) ≡ Fault 0)
    → record { nodes = nodes; rounds = rounds; members = members; me = 0; full = false; own = own; heard = heard_among members 0 rounds flat } ≡ unstarted nodes rounds
opened {V} nodes rounds members own flat none nothing unheard =
    ap (λ (es : List (Entry V)). record { nodes = nodes; rounds = rounds; members = members; me = 0; full = false; own = own; heard = es }) (heard_nothing members 0 rounds flat unheard)
    ∙ ap₂ (λ (ms : List ℕ) (o : Wrapped V). record { nodes = nodes; rounds = rounds; members = ms; me = 0; full = false; own = o; heard = nothing_heard ms 0 rounds }) none nothing

pub opened_station : (capacity nodes rounds : ℕ) (members others : List ℕ) → IsCapacity capacity → nodes ≤ capacity → rounds ≤ 3 → members ≡ [] → others ≡ [] → IsStation capacity nodes rounds 0 members others
opened_station capacity nodes rounds members others size fits short none also = record {
  capacity_ok = size;
  nodes_ok = fits;
  rounds_ok = short;
  members_ok = subst (IsIdSet capacity) (sym none) (sym (filter_none (λ k. false) 0 capacity (λ k low high. refl)));
  below = λ q on. absurd (both_ways (has_id members q) (ap (λ (s : List ℕ). has_id s q) none) on);
  me_ok = elim size [ inl e ↦ omega (arith, e) | inr e ↦ omega (arith, e) ];
  others_ok = also ∙ ap (λ (s : List ℕ). without_id s 0) (sym none);
  few = let e = ap (λ (s : List ℕ). length s) also in omega arith;
}

pub opened_room : {V : Type 0} (nodes rounds below kept room : ℕ) (heard settled : List (Term V)) → below ≡ nodes - 1 → kept ≡ kept_nodes rounds → room ≡ section_at below kept
    → map said heard ≡ replicate room (Fault 0) → map said settled ≡ replicate room (Fault 0) → IsRoom nodes rounds heard settled
opened_room {V} nodes rounds below kept room heard settled low few is unheard unsettled =
    let none : Wrapped V = Fault 0 in
    let all = is ∙ ap₂ section_at low few in
    let many = length-replicate room none in
    record {
      heard_ok = omega (arith, all, many, ap (λ (ts : List (Wrapped V)). length ts) unheard, length-map heard said);
      settled_ok = omega (arith, all, many, ap (λ (ts : List (Wrapped V)). length ts) unsettled, length-map settled said);
      known = subst AreKnown (sym unheard) (known_nothing room);
    }

pub opened_sets : (nodes rounds begins : ℕ) (members : List ℕ) (sets : List (List ℕ)) → begins ≡ free_begins nodes (rounds + 1) → members ≡ [] → sets ≡ replicate begins [] → IsFreeRoom nodes rounds members sets
opened_sets nodes rounds begins members sets is none empty = record {
  long = ap (λ (ss : List (List ℕ)). length ss) empty ∙ length-replicate begins [] ∙ is ∙ one_more nodes rounds;
  free = subst (λ (ms : List ℕ). AreFree ms rounds sets) (sym none) (none_free rounds sets (ap (λ (ss : List (List ℕ)). get_or ss 0 []) empty ∙ first_empty begins []));
}
  where
    first_empty : (n : ℕ) (none : List ℕ) → get_or (replicate n none) 0 none ≡ none
    first_empty zero none = refl
    first_empty (suc n) none = refl
