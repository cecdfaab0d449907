use Rattle.std.proofs.Common.{◌<◌, ◌≤◌, map, length, refl, ap, ◌∙◌, inl, inr, lit<, arith}
use Rattle.std.proofs.lemmas.List.{length-map}
use Rattle.omh_paths.specs.Paths.{path_count}
use Rattle.omh.specs.Flat.{section_at}
use Rattle.relay_terms.specs.Terms.{said, term_in}
use Rattle.relay_walk.specs.Walking.{entries_of}
use Rattle.relay_table.specs.Tabled.{told_in}
use Rattle.relay_table.proofs.HeardView.{kept-le}
use Rattle.relay_table.proofs.Stations.{sixteen_members, others_distinct, end_is, told_many}
use Rattle.relay_table.proofs.Fitting.{heard_fits}
use Rattle.relay_table.proofs.Walks.{halfway_begin, halfway_more, halfway_end, next_there, room_for}
use Rattle.relay_table.proofs.station.Station.hear.Goals as goal

pub loop-k-init : goal.loop-k-init
loop-k-init g c =
    let s = c.args.self.now in
    record {
      half = halfway_begin (term_in g.V.Item.of_bytes) s.members s.others s.me c.args.round (section_at (length s.others) c.args.round) (map said c.args.heard.now) c.args.frames.now c.section_at-at.result
          (c.section_at-at.ensures.begins ∙ ap (λ n. section_at n c.args.round) c.len.ensures.count) c.requires.walk;
      known = c.requires.room.known;
      long = refl;
    }

pub hear_path-at-requires : goal.hear_path-at-requires
hear_path-at-requires g c =
    let s = c.args.self.now in
    let st = c.requires.station.seated in
    let i = c.loop-k.invariant in
    let read = term_in g.V.Item.of_bytes in
    let low : c.loop-k.k < path_count (length s.members) c.args.round = omega (arith, end_is c.len-count.result (length s.members) c.args.round c.count_paths-k-end.result c.count_paths-k-end.ensures.product c.len-count.ensures.count, c.loop-k-test.true) in
    let start = section_at (length s.others) c.args.round in
    let flat = map said c.args.heard.now in
    let size = length-map c.args.heard.now said in
    let fits = heard_fits st c.args.round c.args.heard.now c.requires.kept c.requires.room in
    let room = told_many s.others c.args.round (told_in (entries_of read c.args.frames.now) s.members c.args.round) (others_distinct st) in (
      lit< tt,
      (
        elim st.capacity_ok [ inl e ↦ rw e (lit< tt) | inr e ↦ rw e (lit< tt) ],
        (
          lit< tt,
          (
            st.me_ok,
            (
              next_there read s.members s.others s.me c.args.round start flat c.args.frames.now c.loop-k.k c.loop-k.at c.loop-k.frames (map said c.loop-k.heard) st.members_ok st.others_ok low i.half st.capacity_ok c.outside-outside.result c.outside-outside.ensures,
              λ out. omega (
                arith,
                room_for read s.members s.others s.me c.args.round start flat c.args.frames.now c.loop-k.k c.loop-k.at c.loop-k.frames (map said c.loop-k.heard) st.members_ok st.others_ok low i.half c.outside-outside.result c.outside-outside.ensures (omega (arith, room, fits, size)) out,
                i.long,
                size,
              ),
            ),
          ),
        ),
      ),
    )

pub loop-k-preserved : goal.loop-k-preserved
loop-k-preserved g c =
    let s = c.args.self.now in
    let st = c.requires.station.seated in
    let i = c.loop-k.invariant in
    let low : c.loop-k.k < path_count (length s.members) c.args.round = omega (arith, end_is c.len-count.result (length s.members) c.args.round c.count_paths-k-end.result c.count_paths-k-end.ensures.product c.len-count.ensures.count, c.loop-k-test.true) in
    record {
      half = halfway_more (term_in g.V.Item.of_bytes) s.members s.others s.me c.args.round (section_at (length s.others) c.args.round) (map said c.args.heard.now) c.args.frames.now c.loop-k.k c.loop-k.at c.loop-k.frames (map said c.loop-k.heard)
          st.members_ok st.others_ok low i.half c.outside-outside.result c.hear_path-at.new.frames (map said c.hear_path-at.new.heard) c.hear_path-at.result c.outside-outside.ensures
          (omega (arith, told_many s.others c.args.round (told_in (entries_of (term_in g.V.Item.of_bytes) c.args.frames.now) s.members c.args.round) (others_distinct st), heard_fits st c.args.round c.args.heard.now c.requires.kept c.requires.room, length-map c.args.heard.now said))
          c.hear_path-at.ensures.heard c.hear_path-at.ensures.behind c.hear_path-at.ensures.moved;
      known = c.hear_path-at.ensures.known i.known;
      long = c.hear_path-at.ensures.length ∙ i.long;
    }

pub returns : goal.returns
returns g c =
    let s = c.args.self.now in
    let st = c.requires.station.seated in
    let i = c.loop-k.invariant in
    let past : path_count (length s.members) c.args.round ≤ c.loop-k.k = omega (arith, end_is c.len-count.result (length s.members) c.args.round c.count_paths-k-end.result c.count_paths-k-end.ensures.product c.len-count.ensures.count, c.loop-k-test.false) in
    record {
      heard = halfway_end (term_in g.V.Item.of_bytes) s.members s.others s.me c.args.round (section_at (length s.others) c.args.round) (map said c.args.heard.now) c.args.frames.now c.loop-k.k c.loop-k.at c.loop-k.frames (map said c.loop-k.heard)
          st.members_ok st.others_ok past i.half;
      known = i.known;
      length = i.long;
    }

pub count_paths-k-end-requires-clause-nodes : goal.count_paths-k-end-requires-clause-nodes
count_paths-k-end-requires-clause-nodes g c = omega (arith, c.len-count.ensures.count, sixteen_members c.requires.station.seated)

pub outside-outside-requires : goal.outside-outside-requires
outside-outside-requires g c =
    let s = c.args.self.now in
    let st = c.requires.station.seated in
    let low : c.loop-k.k < path_count (length s.members) c.args.round = omega (arith, end_is c.len-count.result (length s.members) c.args.round c.count_paths-k-end.result c.count_paths-k-end.ensures.product c.len-count.ensures.count, c.loop-k-test.true) in
    (lit< tt, (lit< tt, (c.requires.station, (omega (arith, c.requires.kept, kept-le s.rounds), low))))
