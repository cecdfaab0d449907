use Rattle.std.proofs.Common.{◌≡◌, ◌<◌, ◌≤◌, ◌-◌, map, length, take, drop, refl, sym, ap, subst, ◌∙◌, inl, inr, lit<, arith}
use Rattle.std.proofs.lemmas.List.{length-map, length-drop, drop-map}
use Rattle.omh_paths.specs.Paths.{path_count}
use Rattle.omh.specs.Flat.{section_at}
use Rattle.relay_terms.specs.Terms.{said, term_in}
use Rattle.relay_table.specs.Tabled.{AreKnown}
use Rattle.relay_table.proofs.Known.{known_drop, rest_from}
use Rattle.relay_table.proofs.Stations.{sixteen_members, end_is, begins_within}
use Rattle.relay_table.proofs.Fitting.{heard_room, settled_room}
use Rattle.relay_table.proofs.Settled.{behind_none, behind_more, next_behind, next_low, settled_more, passed_all}
use Rattle.relay_table.proofs.station.Station.settle_longest.Goals as goal

pub offset_bounds-heard-section_at : goal.offset_bounds-heard-section_at
offset_bounds-heard-section_at g c =
    let s = c.args.self.now in
    omega (arith, (begins_within c.len.result (length s.others) s.rounds c.section_at.result (length c.args.heard.now) c.len.ensures.count c.section_at.ensures.begins c.requires.some (heard_room c.requires.station.seated c.args.self.now.rounds (length c.args.heard.now) (omega arith) c.requires.room.heard_ok)).1)

pub slice_bounds-section-count : goal.slice_bounds-section-count
slice_bounds-section-count g c = offset_bounds-heard-section_at g c

pub slice_bounds-section-start : goal.slice_bounds-section-start
slice_bounds-section-start g c = offset_bounds-heard-section_at g c

pub count_paths-k-end-requires-clause-nodes : goal.count_paths-k-end-requires-clause-nodes
count_paths-k-end-requires-clause-nodes g c = omega (arith, c.len-count.ensures.count, sixteen_members c.requires.station.seated)

pub loop-k-init : goal.loop-k-init
loop-k-init g c =
    let s = c.args.self.now in
    record {
      behind = behind_none (term_in g.V.Item.of_bytes) s.members s.others s.me s.rounds c.args.frames.now c.requires.walk;
      settled = λ x kept last j low. absurd (omega arith);
      long = refl;
    }

pub outside-outside-requires : goal.outside-outside-requires
outside-outside-requires g c =
    let s = c.args.self.now in
    let st = c.requires.station.seated in
    let low : c.loop-k.k < path_count (length s.members) s.rounds = omega (arith, end_is c.len-count.result (length s.members) s.rounds c.count_paths-k-end.result c.count_paths-k-end.ensures.product c.len-count.ensures.count, c.loop-k-test.true) in
    (lit< tt, (lit< tt, (c.requires.station, (omega arith, low))))

pub settle_path-at-requires : goal.settle_path-at-requires
settle_path-at-requires g c =
    let s = c.args.self.now in
    let st = c.requires.station.seated in
    let i = c.loop-k.invariant in
    let read = term_in g.V.Item.of_bytes in
    let heard = c.args.heard.now in
    let low : c.loop-k.k < path_count (length s.members) s.rounds = omega (arith, end_is c.len-count.result (length s.members) s.rounds c.count_paths-k-end.result c.count_paths-k-end.ensures.product c.len-count.ensures.count, c.loop-k-test.true) in
    let next = next_low read s.members s.others s.me s.rounds c.args.frames.now c.loop-k.k c.loop-k.at c.loop-k.frames st.members_ok st.others_ok low i.behind c.outside-outside.result c.outside-outside.ensures in
    let b = begins_within c.len.result (length s.others) s.rounds c.section_at.result (length heard) c.len.ensures.count c.section_at.ensures.begins c.requires.some (heard_room c.requires.station.seated c.args.self.now.rounds (length c.args.heard.now) (omega arith) c.requires.room.heard_ok) in
    let rest = rest_from c.section_at.result heard in
    let long = length-drop c.section_at.result heard in
    let settled = settled_room st s.rounds (length c.args.settled.now) c.requires.some (omega arith) c.requires.room.settled_ok in
    let same = ap (λ ts. length ts) rest in (
      lit< tt,
      (
        elim st.capacity_ok [ inl e ↦ rw e (lit< tt) | inr e ↦ rw e (lit< tt) ],
        (
          lit< tt,
          (
            st.me_ok,
            (
              next_behind read s.members s.others s.me s.rounds c.args.frames.now c.loop-k.k c.loop-k.at c.loop-k.frames st.members_ok st.others_ok low i.behind c.outside-outside.result c.outside-outside.ensures st.capacity_ok,
              (
                λ out. omega (arith, next out, i.long, settled),
                (λ out. omega (arith, next out, b.1, long, same), subst (λ ts. AreKnown (map said ts)) (sym rest) (known_drop heard c.section_at.result c.requires.room.known)),
              ),
            ),
          ),
        ),
      ),
    )

pub loop-k-preserved : goal.loop-k-preserved
loop-k-preserved g c =
    let s = c.args.self.now in
    let st = c.requires.station.seated in
    let i = c.loop-k.invariant in
    let read = term_in g.V.Item.of_bytes in
    let heard = c.args.heard.now in
    let low : c.loop-k.k < path_count (length s.members) s.rounds = omega (arith, end_is c.len-count.result (length s.members) s.rounds c.count_paths-k-end.result c.count_paths-k-end.ensures.product c.len-count.ensures.count, c.loop-k-test.true) in
    let b = begins_within c.len.result (length s.others) s.rounds c.section_at.result (length heard) c.len.ensures.count c.section_at.ensures.begins c.requires.some (heard_room c.requires.station.seated c.args.self.now.rounds (length c.args.heard.now) (omega arith) c.requires.room.heard_ok) in
    let section : map said (take (length heard - c.section_at.result) (drop c.section_at.result heard)) ≡ drop (section_at (length s.others) (s.rounds - 1)) (map said heard) =
    ap (map said) (rest_from c.section_at.result heard) ∙ sym (drop-map said c.section_at.result heard) ∙ ap (λ n. drop n (map said heard)) b.0 in
    record {
      behind = behind_more read s.members s.others s.me s.rounds c.args.frames.now c.loop-k.k c.loop-k.at c.loop-k.frames st.members_ok st.others_ok low i.behind c.outside-outside.result c.outside-outside.ensures c.settle_path-at.new.frames c.settle_path-at.result
          c.settle_path-at.ensures.moved c.settle_path-at.ensures.behind;
      settled = λ x kept last.
          settled_more read s.members s.others s.me s.rounds c.args.frames.now c.loop-k.k c.loop-k.at c.loop-k.frames st.members_ok st.others_ok low i.behind c.outside-outside.result c.outside-outside.ensures g.met.V.Exact.exact s.full (map said heard) x c.requires.some kept last
          (map said (take (length heard - c.section_at.result) (drop c.section_at.result heard))) section (map said c.loop-k.settled) (map said c.settle_path-at.new.settled) c.settle_path-at.result c.settle_path-at.ensures.behind
          (omega (arith, settled_room st s.rounds (length c.args.settled.now) c.requires.some (omega arith) c.requires.room.settled_ok, i.long, length-map c.loop-k.settled said)) c.settle_path-at.ensures.settled (i.settled x kept last);
      long = c.settle_path-at.ensures.length ∙ i.long;
    }

pub returns-clause-settled : goal.returns-clause-settled
returns-clause-settled g c x kept last k low =
    let s = c.args.self.now in
    let st = c.requires.station.seated in
    let i = c.loop-k.invariant in
    let past : path_count (length s.members) s.rounds ≤ c.loop-k.k = omega (arith, end_is c.len-count.result (length s.members) s.rounds c.count_paths-k-end.result c.count_paths-k-end.ensures.product c.len-count.ensures.count, c.loop-k-test.false) in
    let all = passed_all g.row.N s.members s.others s.me s.rounds c.loop-k.k st.members_ok st.others_ok past in
    i.settled x kept last k (omega (arith, all, i.behind.at_is, low))
