use Rattle.std.proofs.Common.{◌<◌, map, length, sym, ap, subst, ◌∙◌, inl, inr, lit<, arith}
use Rattle.node_grid.specs.NodeSet.{ids_below}
use Rattle.omh.specs.Heard.{Hearing, ear_of}
use Rattle.relay_terms.specs.Terms.{said, term_in}
use Rattle.relay_walk.specs.Walking.{IsWalk, entries_of}
use Rattle.relay_table.specs.Rooms.{IsRoom}
use Rattle.relay_table.specs.Settling.{IsKeptBy, hearing_of, settled_at_place}
use Rattle.relay_table.specs.Tabled.{AreKnown, heard_among, told_in, after_frames, settled_in}
use Rattle.relay_table.proofs.HeardView.{told_to}
use Rattle.relay_table.proofs.Stations.{section_fits}
use Rattle.relay_table.proofs.Tables.{written_to, kept-some, rounds_are, walk_seen, handed, kept_by, told_last}
use Rattle.relay_table.proofs.table.Table.settle_round.Goals as goal

pub settle-requires : goal.settle-requires
settle-requires g c =
    let inside = c.self.inside in
    let s = inside.station in
    let st = c.self.invariant.0.seated in
    let room = c.self.invariant.1 in
    let own = said inside.own in
    let flat = map said inside.heard.items in
    let h = c.args.self.now in
    let same = rounds_are s own flat h c.self.view_is st in
    let walk = subst (λ r. IsWalk s.members s.others r 0 c.args.frames.now) (sym same) (walk_seen s own flat h c.self.view_is st h.rounds c.args.frames.now c.requires.walk) in
    let seen : IsRoom s.nodes s.rounds c.as_slice.result.now c.as_mut_slice.result.now =
    record {
      heard_ok = ap (λ ts. length ts) c.as_slice.ensures.value ∙ room.heard_ok;
      settled_ok = ap (λ ts. length ts) c.as_mut_slice.ensures.value ∙ room.settled_ok;
      known = subst (λ ts. AreKnown (map said ts)) (sym c.as_slice.ensures.value) room.known;
    } in (
      lit< tt,
      (
        elim st.capacity_ok [ inl e ↦ rw e (lit< tt) | inr e ↦ rw e (lit< tt) ],
        (c.self.invariant.0, (omega (arith, same, c.requires.some), (walk, seen))),
      ),
    )

pub hand_out-requires : goal.hand_out-requires
hand_out-requires g c =
    let inside = c.self.inside in
    let s = inside.station in
    let st = c.self.invariant.0.seated in
    let now = written_to inside.settled.items c.as_mut_slice.result.now c.settle.new.settled inside.settled.len inside.settled.ok.0 c.as_mut_slice.ensures.value c.settle.ensures.length in
    let long = c.settle.ensures.length ∙ ap (λ ts. length ts) c.as_mut_slice.ensures.value ∙ c.self.invariant.1.settled_ok in
    (lit< tt, (st, (omega (arith, section_fits st 1 (kept-some s.rounds), ap (λ ts. length ts) (c.as_slice-2.ensures.value ∙ now), long), c.requires.room)))

pub invariant_of-self : goal.invariant_of-self
invariant_of-self g c =
    let inside = c.self.inside in
    let s = inside.station in
    let room = c.self.invariant.1 in
    let new = c.settle.new.settled in
    let now = written_to inside.settled.items c.as_mut_slice.result.now new inside.settled.len inside.settled.ok.0 c.as_mut_slice.ensures.value c.settle.ensures.length in
    let here : IsRoom s.nodes s.rounds inside.heard.items new =
    record {
      heard_ok = room.heard_ok;
      settled_ok = c.settle.ensures.length ∙ ap (λ ts. length ts) c.as_mut_slice.ensures.value ∙ room.settled_ok;
      known = room.known;
    } in
    (c.self.invariant.0, subst (λ ts. IsRoom s.nodes s.rounds inside.heard.items ts) (sym now) here)

pub returns-clause-kept : goal.returns-clause-kept
returns-clause-kept g c = c.self.view_is

pub returns-clause-settled : goal.returns-clause-settled
returns-clause-settled g c =
    let inside = c.self.inside in
    let s = inside.station in
    let st = c.self.invariant.0.seated in
    let eq = g.V.PartialEq.eq in
    let own = said inside.own in
    let flat = map said inside.heard.items in
    let h = c.args.self.now in
    let view = c.self.view_is in
    let frames = entries_of (term_in g.V.Item.of_bytes) c.args.frames.now in
    let es = map (told_to s.rounds (told_in frames s.members s.rounds)) (heard_among s.members s.me s.rounds flat) in
    let x = ear_of (after_frames frames s.rounds (hearing_of s own flat)) in
    let some : 0 < s.rounds = omega (arith, rounds_are s own flat h view st, c.requires.some) in
    let kept = subst (λ ts. IsKeptBy s (map said ts) x) (sym c.as_slice.ensures.value) (kept_by s own flat h view st frames) in
    let settled = c.settle.ensures.settled x kept (told_last s own flat h view st frames some) in
    let now = written_to inside.settled.items c.as_mut_slice.result.now c.settle.new.settled inside.settled.len inside.settled.ok.0 c.as_mut_slice.ensures.value c.settle.ensures.length in
    c.hand_out.ensures
    ∙ ap (λ ts. map (settled_at_place s.members s.others s.me s.full own (map said ts)) (ids_below g.row.N)) (c.as_slice-2.ensures.value ∙ now)
    ∙ handed s own flat h view st eq es (map said c.settle.new.settled) settled
    ∙ ap (λ (k : Hearing g.row.V.Denot). settled_in eq g.row.N (after_frames frames k.rounds k)) view
