use Rattle.std.proofs.Common.{◌≡◌, refl, arith}
use Rattle.omh_paths.specs.Paths.{index_in}
use Rattle.omh_paths.specs.PathLists.{index_in-lt}
use Rattle.omh_paths.specs.MemberLaws.{Distinct-ids}
use Rattle.omh.proofs.Flats.{place_of_me}
use Rattle.omh.proofs.station.Station.member_place.Goals as goal

pub returns-clause-place : goal.returns-clause-place
returns-clause-place g c =
    let members = c.args.self.now.members in
    place_of_me members members c.args.member c.rank.result c.root.result (Distinct-ids g.row.N members c.requires.station.members_ok) c.requires.member refl c.root.ensures c.rank.ensures.place

pub returns-clause-in_range : goal.returns-clause-in_range
returns-clause-in_range g c =
    let members = c.args.self.now.members in
    let at : c.rank.result ≡ index_in members c.args.member =
    place_of_me members members c.args.member c.rank.result c.root.result (Distinct-ids g.row.N members c.requires.station.members_ok) c.requires.member refl c.root.ensures c.rank.ensures.place in
    omega (arith, at, index_in-lt members c.args.member c.requires.member)
