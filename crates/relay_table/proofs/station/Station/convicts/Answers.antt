use Rattle.std.proofs.Common.{ℕ, ◌≡◌, ◌<◌, ◌≤◌, ◌+◌, ◌-◌, ◌*◌, ◌&&◌, map, length, take, drop, get_or, sym, ap, ap₂, ◌∙◌, lit<, arith}
use Rattle.std.proofs.lemmas.List.{length-map, length-take, take-map, drop-map}
use Rattle.node_grid.specs.SetFacts.{member-lt}
use Rattle.equivocation.specs.Conviction.{is_convicted}
use Rattle.node_grid.specs.NodeSet.{has_id}
use Rattle.omh_paths.specs.declared.wrapped.Wrapped.TheVariants.{Fault}
use Rattle.omh_paths.specs.MemberLaws.{place-index}
use Rattle.omh_paths.specs.Paths.{index_in}
use Rattle.omh_paths.specs.PathLists.{index_in-lt}
use Rattle.omh.specs.Flat.{section_at}
use Rattle.relay_terms.specs.Terms.{said}
use Rattle.relay_table.specs.Tabled.{kept_nodes}
use Rattle.relay_table.proofs.Convicted.{convicts_as, kept-pairs, pairs_fit}
use Rattle.relay_table.proofs.Known.{known_at, said_at}
use Rattle.relay_table.proofs.Stations.{sixteen_others}
use Rattle.relay_table.proofs.Fitting.{pairs_room}
use Rattle.relay_table.proofs.station.Station.convicts.Goals as goal

pub place-place-requires : goal.place-place-requires
place-place-requires g c = (lit< tt, member-lt g.row.N c.args.self.now.others c.args.node c.len-count.ensures.ids c.requires.node)

-- the terms of a member's item and of its relays are there
there : (count n place index room : ℕ) → count ≡ n → place ≡ index → index < n → section_at n 2 ≤ room → (place < room) × (count + place * (count - 1) + (count - 1) ≤ room)
there count n place index room same is low fits =
    let p = pairs_fit n index room low fits in
    let e : count + place * (count - 1) ≡ n + index * (n - 1) = ap₂ (λ (c p : ℕ). c + p * (c - 1)) same is in
    (omega (arith, p, low, is), omega (arith, p, e, same))

pub bounds-heard-place : goal.bounds-heard-place
bounds-heard-place g c =
    let others = c.args.self.now.others in
    let place = c.place-place.ensures.count ∙ place-index g.row.N others c.args.node c.place-place.ensures.ids c.requires.node in
    (there c.len-count.result (length others) c.place-place.result (index_in others c.args.node) (length c.args.heard.now) c.len-count.ensures.count place (index_in-lt others c.args.node c.requires.node) (pairs_room c.requires.station (length c.args.heard.now) c.requires.some c.requires.room.heard_ok)).0

pub offset_bounds-heard-place : goal.offset_bounds-heard-place
offset_bounds-heard-place g c = let low = bounds-heard-place g c in omega arith

pub slice_bounds-is_convicted-end : goal.slice_bounds-is_convicted-end
slice_bounds-is_convicted-end g c =
    let others = c.args.self.now.others in
    let place = c.place-place.ensures.count ∙ place-index g.row.N others c.args.node c.place-place.ensures.ids c.requires.node in
    (there c.len-count.result (length others) c.place-place.result (index_in others c.args.node) (length c.args.heard.now) c.len-count.ensures.count place (index_in-lt others c.args.node c.requires.node) (pairs_room c.requires.station (length c.args.heard.now) c.requires.some c.requires.room.heard_ok)).1

pub offset_bounds-heard-from : goal.offset_bounds-heard-from
offset_bounds-heard-from g c =
    let others = c.args.self.now.others in
    let place = c.place-place.ensures.count ∙ place-index g.row.N others c.args.node c.place-place.ensures.ids c.requires.node in
    let fits = (there c.len-count.result (length others) c.place-place.result (index_in others c.args.node) (length c.args.heard.now) c.len-count.ensures.count place (index_in-lt others c.args.node c.requires.node) (pairs_room c.requires.station (length c.args.heard.now) c.requires.some c.requires.room.heard_ok)).1 in
    omega (arith, fits)

pub is_convicted-requires : goal.is_convicted-requires
is_convicted-requires g c =
    let others = c.args.self.now.others in
    let heard = c.args.heard.now in
    let place = c.place-place.ensures.count ∙ place-index g.row.N others c.args.node c.place-place.ensures.ids c.requires.node in
    let fits = there c.len-count.result (length others) c.place-place.result (index_in others c.args.node) (length heard) c.len-count.ensures.count place (index_in-lt others c.args.node c.requires.node) (pairs_room c.requires.station (length c.args.heard.now) c.requires.some c.requires.room.heard_ok) in
    let from = c.len-count.result + c.place-place.result * (c.len-count.result - 1) in
    let width = c.len-count.result - 1 in (
      lit< tt,
      (
        known_at heard c.place-place.result c.index-heard-place.result c.index-heard-place.is fits.0 c.requires.room.known,
        omega (arith, length-take (from + width - from) (drop from heard), c.len-count.ensures.count, sixteen_others c.requires.station),
      ),
    )

pub returns : goal.returns
returns g c x kept =
    let s = c.args.self.now in
    let st = c.requires.station in
    let others = s.others in
    let heard = c.args.heard.now in
    let node = c.args.node in
    let n = length others in
    let index = index_in others node in
    let eq = g.V.PartialEq.eq in
    let place = c.place-place.ensures.count ∙ place-index g.row.N others node c.place-place.ensures.ids c.requires.node in
    let fits = there c.len-count.result n c.place-place.result index (length heard) c.len-count.ensures.count place (index_in-lt others node c.requires.node) (pairs_room c.requires.station (length c.args.heard.now) c.requires.some c.requires.room.heard_ok) in
    let from = c.len-count.result + c.place-place.result * (c.len-count.result - 1) in
    let many = from + (c.len-count.result - 1) - from in
    let same : many ≡ n - 1 = omega (arith, c.len-count.ensures.count) in
    let begins : from ≡ n + index * (n - 1) = ap₂ (λ (c p : ℕ). c + p * (c - 1)) c.len-count.ensures.count place in
    let told = said_at heard c.place-place.result c.index-heard-place.result c.index-heard-place.is fits.0 ∙ ap (λ k. get_or (map said heard) k (Fault 0)) place in
    let relays = sym (take-map said many (drop from heard)) ∙ ap (take many) (sym (drop-map said from heard)) ∙ ap₂ (λ m f. take m (drop f (map said heard))) same begins in
    let fits_flat : section_at n 2 ≤ length (map said heard) = omega (arith, (pairs_room c.requires.station (length c.args.heard.now) c.requires.some c.requires.room.heard_ok), length-map heard said) in
    c.is_convicted.ensures
    ∙ ap₂ (λ t ts. is_convicted eq t ts (s.full && has_id s.members s.me) s.rounds) told relays
    ∙ convicts_as eq g.row.N s.members others s.me s.rounds (kept_nodes s.rounds) node s.full (map said heard) x st.members_ok st.others_ok (kept-pairs s.rounds c.requires.some) c.requires.node kept fits_flat
