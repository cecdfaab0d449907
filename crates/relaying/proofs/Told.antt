-- What the frames of a round say, by path, is what is heard of it.
use Rattle.std.proofs.Common.{ℕ, zero, suc, ◌≡◌, ◌<◌, ◌≤◌, ◌+◌, ◌==◌, ◌&&◌, true, if◌then◌else◌, List, length, map, refl, sym, ap, subst, ◌∙◌, inl, inr, arith, eq-eqb, ne_eqb, Option, None, Some}
use Rattle.std.specs.Prelude.{nat_lt}
use Rattle.std.specs.List.{AllByRecursion}
use Rattle.std.proofs.lemmas.Bool.{cases_Bool, cases_eq, cond-true, cond-false, both_ways, or_right}
use Rattle.node_grid.specs.NodeSet.{has_id, without_id, IsIdSet}
use Rattle.node_grid.specs.NodeSetLaws.{filter_range, ids_where-within}
use Rattle.node_grid.specs.Count.{Distinct}
use Rattle.node_grid.specs.ListLaws.{has_push}
use Rattle.node_grid.specs.SetFacts.{has-without}
use Rattle.omh_paths.specs.declared.wrapped.Wrapped.{Wrapped}
use Rattle.omh_paths.specs.MemberLaws.{Distinct-ids}
use Rattle.omh_paths.specs.PathLaws.{map_alike}
use Rattle.omh.specs.Heard.{Entry, Hearing}
use Rattle.omh.specs.HeardLaws.{IsHeardPath, all_heard_paths}
use Rattle.omh.specs.Written.{last_node}
use Rattle.frames.specs.Content.{Content}
use Rattle.error_detect.specs.Watching.{Watch, told_at}
use Rattle.protocol.specs.Arrival.{ItemForm, arrived, read_as, said}
use Rattle.protocol.specs.Heard.{heard}
use Rattle.relay_rules.specs.Hearing.{told_to, all_told, slot_rounds, frame_says, after_round, IsByPath}
use Rattle.relay_rules.specs.HearingLaws.{told_is}
use Rattle.relay_walk.specs.Walking.{says}
use Rattle.relay_table.specs.Tabled.{kept_nodes, told_in, after_frames, term_of}
use Rattle.relaying.specs.Told.{part_told}
use Rattle.relaying.proofs.Entries.{Behind, behind, says_heard, each_entry, where_all}

-- ---- what a node heard, path by path

real_entries : {V : Type 0} (h : Hearing V) → Distinct h.members → IsByPath h → AllByRecursion (λ (e : Entry V). IsHeardPath h.members h.me h.rounds e.path) h.heard
real_entries {V} h d paths =
    each_entry (IsHeardPath h.members h.me h.rounds) h.heard (subst (AllByRecursion (IsHeardPath h.members h.me h.rounds)) (sym paths) (all_heard_paths h.members h.me h.rounds d))

-- the entries of paths of r + 1 nodes are told, and no others
told_entry : {V : Type 0} (h : Hearing V) (n r : ℕ) (tell f : List ℕ → Wrapped V) → IsIdSet n h.members
    → ((p : List ℕ) → IsHeardPath h.members h.me h.rounds p → length p ≡ r + 1 → tell p ≡ f p)
    → (e : Entry V) → IsHeardPath h.members h.me h.rounds e.path
    → (if length e.path == r + 1 then record { path = e.path; value = tell e.path } else e) ≡ told_to (all_told h.members h.me r n) f e
told_entry {V} h n r tell f ids same e real =
    let one : r + 1 ≡ suc r = omega arith in
    let t = told_is h.members h.me h.rounds n r e.path ids real in
    elim (cases_eq (length e.path) (r + 1)) [
      | inl long ↦
          cond-true (length e.path == r + 1) (record { path = e.path; value = tell e.path }) e (eq-eqb (length e.path) (r + 1) long)
          ∙ ap (λ (u : Wrapped V). record { path = e.path; value = u })
          (same e.path real long ∙ sym (cond-true _ (f e.path) e.value (t ∙ eq-eqb (length e.path) (suc r) (long ∙ one))))
      | inr ne ↦
          cond-false (length e.path == r + 1) (record { path = e.path; value = tell e.path }) e (ne_eqb (length e.path) (r + 1) ne)
          ∙ ap (λ (u : Wrapped V). record { path = e.path; value = u })
          (sym (cond-false _ (f e.path) e.value (t ∙ ne_eqb (length e.path) (suc r) (λ e'. ne (e' ∙ sym one)))))
    ]

told_each : {V : Type 0} (h : Hearing V) (n r : ℕ) (tell f : List ℕ → Wrapped V) → IsIdSet n h.members → IsByPath h
    → ((p : List ℕ) → IsHeardPath h.members h.me h.rounds p → length p ≡ r + 1 → tell p ≡ f p)
    → map (λ (e : Entry V). if length e.path == r + 1 then record { path = e.path; value = tell e.path } else e) h.heard ≡ map (told_to (all_told h.members h.me r n) f) h.heard
told_each {V} h n r tell f ids paths same =
    map_alike (λ (e : Entry V). if length e.path == r + 1 then record { path = e.path; value = tell e.path } else e) (told_to (all_told h.members h.me r n) f) h.heard
    (where_all (λ (e : Entry V). IsHeardPath h.members h.me h.rounds e.path)
    (λ (e : Entry V). (if length e.path == r + 1 then record { path = e.path; value = tell e.path } else e) ≡ told_to (all_told h.members h.me r n) f e)
    h.heard (real_entries h (Distinct-ids n h.members ids) paths) (told_entry h n r tell f ids same))

-- a path's last node is another member
last_other : (members : List ℕ) (me rounds r : ℕ) (p : List ℕ) → Distinct members → IsHeardPath members me rounds p → length p ≡ r + 1 → (has_id members (last_node p) ≡ true) × (has_id (without_id members me) (last_node p) ≡ true)
last_other members me rounds r p d real long =
    let q : ℕ = last_node p in
    let b : Behind members r q p = behind members me rounds r q p d real long refl in
    let on : has_id p q ≡ true = ap (λ (x : List ℕ). has_id x q) b.is ∙ has_push b.front q q ∙ or_right (has_id b.front q) (q == q) (eq-eqb q q refl) in
    let member : has_id members q ≡ true = real.within q on in
    (member, has-without members me q (λ e. both_ways _ real.other (ap (has_id p) (sym e) ∙ on)) member)

-- ---- a round of relays

said_by_frame : {V : Type 0} (form : ItemForm V) (members : List ℕ) (q r : ℕ) (o : Option Content) (p : List ℕ)
    → says members q r (part_told form.relay_in o) p ≡ frame_says members q r (arrived form.relay_in None o) p
said_by_frame form members q r None p = refl
said_by_frame {V} form members q r (Some c) p = parts (form.relay_in c) where
  parts : (x : Option (List (Wrapped V))) → says members q r x p ≡ frame_says members q r (read_as x) p
  parts None = refl
  parts (Some xs) = refl

pub round_by_frames : {V : Type 0} (form : ItemForm V) (w : Watch) (n r : ℕ) (h : Hearing V) (frames : ℕ → Option (List (Wrapped V))) → IsIdSet n h.members → IsByPath h → 0 < r
    → ((q : ℕ) → has_id (without_id h.members h.me) q ≡ true → frames q ≡ part_told form.relay_in (told_at w q))
    → after_frames frames r h ≡ after_round form n w r h
round_by_frames {V} form w n r h frames ids paths some said_so =
    ap (λ (es : List (Entry V)). record h { heard = es }) (told_each h n r (told_in frames h.members r) (heard (slot_rounds form h.members w)) ids paths one)
  where
    one : (p : List ℕ) → IsHeardPath h.members h.me h.rounds p → length p ≡ r + 1 → told_in frames h.members r p ≡ heard (slot_rounds form h.members w) p
    one p real long =
        let d : Distinct h.members = Distinct-ids n h.members ids in
        let q : ℕ = last_node p in
        let o = last_other h.members h.me h.rounds r p d real long in
        ap (λ (x : Option (List (Wrapped V))). says h.members q r x p) (said_so q o.1)
        ∙ said_by_frame form h.members q r (told_at w q) p
        ∙ says_heard form h.members w h.me h.rounds r q p d real o.0 some long refl

-- ---- round 0

pub term_said : {V : Type 0} (part : Content → Option V) (o : Option Content) → term_of (part_told part o) ≡ said (arrived part None o)
term_said part None = refl
term_said {V} part (Some c) = parts (part c) where
  parts : (x : Option V) → term_of x ≡ said (read_as x)
  parts None = refl
  parts (Some v) = refl

-- ---- sets of nodes, and rounds whose terms are kept

pub fewer_ids : (capacity n : ℕ) (s : List ℕ) → IsIdSet capacity s → n ≤ capacity → ((q : ℕ) → has_id s q ≡ true → q < n) → IsIdSet n s
fewer_ids capacity n s ids fits low =
    ids ∙ filter_range (has_id s) (λ k. nat_lt k n && has_id s k) 0 capacity (λ k above below. elim (cases_Bool (has_id s k)) [
      | inl on ↦ on ∙ sym (let l : k < n = low k on in grind (arith, on))
      | inr off ↦ grind (arith, off)
    ])
    ∙ ids_where-within (has_id s) capacity n fits

pub kept_round : (r m : ℕ) → r < kept_nodes m → r ≤ m
kept_round r zero h = omega (arith, h)
kept_round r (suc zero) h = omega (arith, h)
kept_round r (suc (suc m)) h = omega (arith, h)

pub round_kept : (r m : ℕ) → r ≤ m → r ≤ kept_nodes m
round_kept r zero h = omega (arith, h)
round_kept r (suc zero) h = omega (arith, h)
round_kept r (suc (suc m)) h = h
