use Rattle.std.proofs.Common.{suc, ◌≤◌, ◌+◌, map, length, sym, ap, subst, ◌∙◌, inl, inr, lit<, arith}
use Rattle.std.proofs.lemmas.List.{length-map}
use Rattle.omh.specs.Flat.{section_at}
use Rattle.omh_paths.specs.Paths.{paths_of_length}
use Rattle.relay_terms.specs.Terms.{said, term_in}
use Rattle.relay_walk.specs.Laid.{laid}
use Rattle.relay_walk.specs.Walking.{entries_of}
use Rattle.relay_table.specs.Settling.{hearing_of}
use Rattle.relay_table.specs.Tabled.{AreKnown, kept_nodes, told_in}
use Rattle.relay_table.proofs.HeardView.{kept-le}
use Rattle.relay_table.proofs.Stations.{section_fits, rooms_small}
use Rattle.relay_table.proofs.Tables.{written_to, room_written, hears_frames, walk_seen, rounds_are}
use Rattle.relay_table.proofs.table.Table.hear_round.Goals as goal

pub hear-requires : goal.hear-requires
hear-requires g c =
    let inside = c.self.inside in
    let s = inside.station in
    let st = c.self.invariant.0.seated in
    let room = c.self.invariant.1 in
    let flat = map said inside.heard.items in
    let is = c.as_mut_slice.ensures.value in
    let size = ap (λ ts. length ts) is in
    let same = ap kept_nodes (rounds_are s (said inside.own) flat c.args.self.now c.self.view_is st) in
    let walk = walk_seen s (said inside.own) flat c.args.self.now c.self.view_is st c.args.round c.args.frames.now c.requires.walk in (
      lit< tt,
      (
        elim st.capacity_ok [ inl e ↦ rw e (lit< tt) | inr e ↦ rw e (lit< tt) ],
        (
          c.self.invariant.0,
          (
            c.requires.some,
            (omega (arith, c.requires.kept, same), (walk, record { heard_ok = size ∙ room.heard_ok; known = subst (λ ts. AreKnown (map said ts)) (sym is) room.known })),
          ),
        ),
      ),
    )

pub invariant_of-self : goal.invariant_of-self
invariant_of-self g c =
    let inside = c.self.inside in
    let s = inside.station in
    let room = room_written s.nodes s.rounds inside.heard.items c.as_mut_slice.result.now c.hear.new.heard inside.settled.items inside.heard.len c.self.invariant.1 inside.heard.ok.0 c.as_mut_slice.ensures.value c.hear.ensures.length c.hear.ensures.known in
    (c.self.invariant.0, room)

pub returns : goal.returns
returns g c =
    let inside = c.self.inside in
    let s = inside.station in
    let st = c.self.invariant.0.seated in
    let r = c.args.round in
    let new = c.hear.new.heard in
    let flat = map said inside.heard.items in
    let frames = entries_of (term_in g.V.Item.of_bytes) c.args.frames.now in
    let now = written_to inside.heard.items c.as_mut_slice.result.now new inside.heard.len inside.heard.ok.0 c.as_mut_slice.ensures.value c.hear.ensures.length in
    let same = ap kept_nodes (rounds_are s (said inside.own) flat c.args.self.now c.self.view_is st) in
    let kept : r + 1 ≤ kept_nodes s.rounds = omega (arith, c.requires.kept, same) in
    ap (λ ts. hearing_of s (said inside.own) (map said ts)) now
    ∙ hears_frames s (said inside.own) flat c.args.self.now c.self.view_is st frames r (map said new) kept
    (omega (arith, section_fits st (suc r) (omega (arith, kept)), c.self.invariant.1.heard_ok, length-map inside.heard.items said))
    (c.hear.ensures.heard ∙ ap (λ ts. laid (section_at (length s.others) r) (map (told_in frames s.members r) (paths_of_length s.others (suc r))) (map said ts)) c.as_mut_slice.ensures.value)
