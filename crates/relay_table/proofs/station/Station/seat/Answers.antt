use Rattle.std.proofs.Common.{ℕ, suc, ◌≡◌, ◌<◌, ◌≤◌, ◌+◌, ◌==◌, Bool, true, false, not, List, length, refl, sym, ap, subst, ◌∙◌, lit<, arith}
use Rattle.std.specs.Cmp.Lexicographic.{pointwise}
use Rattle.std.proofs.lemmas.Slice.Eq.{bytes_eq-Decides}
use Rattle.node_grid.specs.NodeSet.{has_id, without_id, IsIdSet}
use Rattle.omh.proofs.Flats.{few_below}
use Rattle.omh_paths.specs.MemberLaws.{Distinct-ids}
use Rattle.relay_table.specs.declared.station.Station.{Station}
use Rattle.relay_table.specs.Free.{free_begins}
use Rattle.relay_table.specs.Rooms.{IsFreeRoom}
use Rattle.relay_table.specs.Settling.{IsLaidOut}
use Rattle.relay_table.proofs.Frees.{begins-few, one_more}
use Rattle.relay_table.proofs.Stations.{few_others}
use Rattle.relay_table.proofs.Tables.{written_to}
use Rattle.relay_table.proofs.station.Station.seat.Goals as goal
use Rattle.relay_table.proofs.station.Station.seat.Goals.{then-ne, else-ne}

-- there is room for the sets of any members
sets_fit : (capacity nodes rounds room : ℕ) (members : List ℕ) → room ≡ free_begins nodes (suc rounds) → ((q : ℕ) → has_id members q ≡ true → q < nodes) → IsIdSet capacity members → free_begins (length members) (rounds + 1) ≤ room
sets_fit capacity nodes rounds room members long below ids =
    let few = few_below nodes members (Distinct-ids capacity members ids) below in
    omega (arith, long, one_more (length members) rounds, begins-few (length members) nodes (suc rounds) few)

pub lay_free-requires : goal.lay_free-requires
lay_free-requires g c =
    let s = c.args.self.now in
    let is = c.requires.station in
    (lit< tt, (is.seated.rounds_ok, λ ids. omega (arith, sets_fit g.row.N s.nodes s.rounds (length s.free.items) c.args.members.now is.sets.long c.requires.members ids, ap (λ ss. length ss) c.as_mut_slice.ensures.value)))

equal : (b : Bool) → false ≡ not b → b ≡ true
equal true h = refl
equal false h = cc

-- a station that has new members, and new sets or those that these members had
seated_now : {N : ℕ} (old now : Station N) (members others : List ℕ) (me : ℕ) (full : Bool) → IsLaidOut old → now.nodes ≡ old.nodes → now.rounds ≡ old.rounds → IsIdSet N members
    → ((q : ℕ) → has_id members q ≡ true → q < old.nodes) → me < old.nodes → others ≡ without_id members me → IsFreeRoom old.nodes old.rounds members now.free.items
    → IsLaidOut {N = N} (record { nodes = now.nodes; rounds = now.rounds; members = members; others = others; me = me; full = full; free = now.free })
seated_now {N} old now members others me full was nodes rounds ids below low is sets = record {
  seated = record {
    capacity_ok = was.seated.capacity_ok;
    nodes_ok = omega (arith, nodes, was.seated.nodes_ok);
    rounds_ok = omega (arith, rounds, was.seated.rounds_ok);
    members_ok = ids;
    below = λ q on. omega (arith, below q on, nodes);
    me_ok = omega (arith, low, was.seated.nodes_ok);
    others_ok = is;
    few = omega (arith, few_others N old.nodes me members ids below low, ap (λ (xs : List ℕ). length xs) is, nodes);
  };
  sets = subst (λ (n : ℕ). IsFreeRoom n now.rounds members now.free.items) (sym nodes) (subst (λ (m : ℕ). IsFreeRoom old.nodes m members now.free.items) (sym rounds) sets);
}

pub returns-clause-station : goal.returns-clause-station
returns-clause-station g c =
    let s = c.args.self.now in
    let is = c.requires.station in
    let members = c.args.members.now in
    elim c.if-ne.branch [
      | then-ne w ↦
          let new = w.lay_free.new.sets in
          let now = ap (λ (x : Station g.row.N). x.free.items) w.self-is ∙ written_to s.free.items w.as_mut_slice.result.now new s.free.len s.free.ok.0 w.as_mut_slice.ensures.value w.lay_free.ensures.room in
          seated_now s c.if-ne.self members c.without-self.result c.args.me c.args.full is (ap (λ (x : Station g.row.N). x.nodes) w.self-is) (ap (λ (x : Station g.row.N). x.rounds) w.self-is)
          w.lay_free.ensures.ids c.requires.members c.requires.me c.without-self.ensures
          (subst (λ ss. IsFreeRoom s.nodes s.rounds members ss) (sym now)
          (record { long = w.lay_free.ensures.room ∙ ap (λ ss. length ss) w.as_mut_slice.ensures.value ∙ is.sets.long; free = w.lay_free.ensures.free }))
      | else-ne w ↦
          let same : members ≡ s.members = (bytes_eq-Decides members s.members).0 (equal (pointwise ◌==◌ members s.members) (sym w.if-ne.false ∙ c.ne.ensures)) in
          seated_now s c.if-ne.self members c.without-self.result c.args.me c.args.full is (ap (λ (x : Station g.row.N). x.nodes) w.self-is) (ap (λ (x : Station g.row.N). x.rounds) w.self-is)
          (subst (IsIdSet g.row.N) (sym same) is.seated.members_ok) c.requires.members c.requires.me c.without-self.ensures
          (subst (λ (x : Station g.row.N). IsFreeRoom s.nodes s.rounds members x.free.items) (sym w.self-is) (subst (λ ms. IsFreeRoom s.nodes s.rounds ms s.free.items) (sym same) is.sets))
    ]
