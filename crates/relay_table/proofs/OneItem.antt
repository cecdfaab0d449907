-- What was heard after one member's own item.
use Rattle.std.proofs.Common.{ℕ, ◌≡◌, ◌≢◌, ◌<◌, ◌≤◌, ◌+◌, ◌-◌, true, if◌then◌else◌, List, [], ◌∷◌, length, map, get_or, sym, ap, ◌∙◌, inl, inr, arith}
use Rattle.std.proofs.lemmas.Bool.{cases_Bool, cases_eq, cases_lt, cond-true, cond-false, both_ways}
use Rattle.node_grid.specs.NodeSet.{has_id, without_id, IsIdSet}
use Rattle.node_grid.specs.Count.{Distinct}
use Rattle.omh_paths.specs.declared.wrapped.Wrapped.{Wrapped}
use Rattle.omh_paths.specs.declared.wrapped.Wrapped.TheVariants.{Fault}
use Rattle.omh_paths.specs.MemberLaws.{Distinct-ids}
use Rattle.omh_paths.specs.Paths.{same_nodes, paths_of_length, path_at, place_in, index_in}
use Rattle.omh_paths.specs.PathLists.{same_nodes-tells, same_nodes-finds, Distinct-without, index_in-lt, path_at-place, length-paths}
use Rattle.omh.specs.Flat.{section_at}
use Rattle.omh.specs.FlatLaws.{section_at-le}
use Rattle.omh.specs.Heard.{Hearing, with_heard}
use Rattle.omh.specs.HeardLaws.{IsHeardPath, entries_with}
use Rattle.relay_walk.specs.Laid.{laid}
use Rattle.relay_walk.specs.LaidLaws.{laid_before, laid_in, laid_behind}
use Rattle.relay_table.specs.declared.station.Station.{Station}
use Rattle.relay_table.specs.Settling.{IsSeated, hearing_of}
use Rattle.relay_table.specs.Tabled.{kept_nodes, kept_heard, heard_among}
use Rattle.relay_table.proofs.HeardView.{kept_where, not_kept, place_there}
use Rattle.relay_table.proofs.Stations.{root_path}
use Rattle.relay_table.proofs.Tables.{kept-some}

module _ {V : Type 0} (n : ℕ) (members : List ℕ) (me rounds most : ℕ) (ids : IsIdSet n members) (flat : List (Wrapped V)) (q : ℕ) (term : Wrapped V) (on : has_id (without_id members me) q ≡ true) (kept : 1 ≤ most) (room : length (without_id members me) ≤ length flat) where
  abbrev others : List ℕ
  others = without_id members me

  abbrev spot : ℕ
  spot = index_in others q

  abbrev after : List (Wrapped V)
  after = laid spot (term ∷ []) flat

  dist : Distinct others
  dist = Distinct-without members me (Distinct-ids n members ids)

  low : spot < length others
  low = index_in-lt others q on

  item_here : (path : List ℕ) → path ≡ q ∷ [] → kept_heard most others after path ≡ term
  item_here path is =
      let e : section_at (length others) (1 - 1) + spot ≡ spot + 0 = omega arith in
      let l = low in
      ap (kept_heard most others after) (is ∙ sym (root_path others q dist on))
      ∙ place_there others most 1 spot after dist (omega arith) kept (omega (arith, l))
      ∙ ap (λ (k : ℕ). get_or after k (Fault 0)) e
      ∙ laid_in spot (term ∷ []) flat 0 (Fault 0) (omega arith) (omega (arith, l, room))

  abbrev place : List ℕ → ℕ
  place path = place_in (paths_of_length others (length path)) path

  abbrev stands : List ℕ → ℕ
  stands path = section_at (length others) (length path - 1) + place path

  -- the only path whose term stands there
  alone : (path : List ℕ) → IsHeardPath members me rounds path → stands path ≡ spot → path ≡ q ∷ []
  alone path real same = elim (cases_eq (length path) 1) [
    | inl one ↦
        let p : place path ≡ spot = (let s = ap (λ (k : ℕ). section_at (length others) (k - 1)) one in omega (arith, s, same)) in
        let at_one : place path ≡ place_in (paths_of_length others 1) path = ap (λ (k : ℕ). place_in (paths_of_length others k) path) one in
        let inside : place_in (paths_of_length others 1) path < length (paths_of_length others 1) = (let l = low in let m = length-paths others 1 dist in omega (arith, p, at_one, l, m)) in
        sym (path_at-place (paths_of_length others 1) path inside) ∙ ap (path_at (paths_of_length others 1)) (sym at_one ∙ p) ∙ root_path others q dist on
    | inr more ↦
        let some = real.some in
        let longer : section_at (length others) 1 ≤ section_at (length others) (length path - 1) = section_at-le (length others) 1 (length path - 1) (omega (arith, some, more)) in
        absurd (let l = low in omega (arith, longer, same, l))
  ]

  item_there : (path : List ℕ) → IsHeardPath members me rounds path → path ≢ q ∷ [] → kept_heard most others after path ≡ kept_heard most others flat path
  item_there path real ne = elim (cases_lt most (length path)) [
    | inl high ↦ not_kept most others after path high ∙ sym (not_kept most others flat path high)
    | inr short ↦
        let l = low in
        let middle : get_or after (stands path) (Fault 0) ≡ get_or flat (stands path) (Fault 0) = elim (cases_lt (stands path) spot) [
          | inl before ↦ laid_before spot (term ∷ []) flat (stands path) (Fault 0) before (omega (arith, l, room))
          | inr behind ↦ elim (cases_eq (stands path) spot) [
            | inl same ↦ absurd (ne (alone path real same))
            | inr other ↦ laid_behind spot (term ∷ []) flat (stands path) (Fault 0) (omega (arith, behind, other)) (omega (arith, l, room))
          ]
        ] in
        kept_where most others after path short ∙ middle ∙ sym (kept_where most others flat path short)
  ]

  item_after : (path : List ℕ) → IsHeardPath members me rounds path → kept_heard most others after path ≡ (if same_nodes path (q ∷ []) then term else kept_heard most others flat path)
  item_after path real = elim (cases_Bool (same_nodes path (q ∷ []))) [
    | inl y ↦ item_here path (same_nodes-tells path (q ∷ []) y) ∙ sym (cond-true (same_nodes path (q ∷ [])) term (kept_heard most others flat path) y)
    | inr n' ↦
        item_there path real (λ e. both_ways _ n' (ap (λ (p : List ℕ). same_nodes p (q ∷ [])) e ∙ same_nodes-finds (q ∷ [])))
        ∙ sym (cond-false (same_nodes path (q ∷ [])) term (kept_heard most others flat path) n')
  ]

pub hears_item : {V : Type 0} {n : ℕ} (s : Station n) (own : Wrapped V) (flat : List (Wrapped V)) (h : Hearing V) → hearing_of s own flat ≡ h → IsSeated s
    → (q : ℕ) (term : Wrapped V) (new : List (Wrapped V)) → has_id s.others q ≡ true → length s.others ≤ length flat → new ≡ laid (index_in s.others q) (term ∷ []) flat
    → hearing_of s own new ≡ record h { heard = map (with_heard (q ∷ []) term) h.heard }
hears_item {V} {n} s own flat h view st q term new on room is =
    let others : s.others ≡ without_id s.members s.me = st.others_ok in
    let on' : has_id (without_id s.members s.me) q ≡ true = ap (λ (os : List ℕ). has_id os q) (sym others) ∙ on in
    let room' : length (without_id s.members s.me) ≤ length flat = (let l = ap (λ (os : List ℕ). length os) others in omega (arith, l, room)) in
    let there : new ≡ laid (index_in (without_id s.members s.me) q) (term ∷ []) flat = is ∙ ap (λ (os : List ℕ). laid (index_in os q) (term ∷ []) flat) others in
    ap (λ es. record { nodes = s.nodes; rounds = s.rounds; members = s.members; me = s.me; full = s.full; own = own; heard = es })
    (ap (heard_among s.members s.me s.rounds) there
    ∙ entries_with (kept_heard (kept_nodes s.rounds) (without_id s.members s.me) flat)
    (kept_heard (kept_nodes s.rounds) (without_id s.members s.me) (laid (index_in (without_id s.members s.me) q) (term ∷ []) flat)) s.members s.me s.rounds (q ∷ []) term
    (Distinct-ids n s.members st.members_ok)
    (item_after n s.members s.me s.rounds (kept_nodes s.rounds) st.members_ok flat q term on' (kept-some s.rounds) room'))
    ∙ ap (λ (k : Hearing V). record k { heard = map (with_heard (q ∷ []) term) k.heard }) view
