use Rattle.std.proofs.Common.{length, lit<}
use Rattle.omh.proofs.Tables.{put_seen, put_room, members_seen, short_seen, place_low}
use Rattle.omh.proofs.table.Table.put.Goals as goal

pub place-place-requires : goal.place-place-requires
place-place-requires g c =
    let s = c.self.inside.station in (
      lit< tt,
      (
        c.self.invariant.0,
        (
          members_seen g.row.N s.nodes s.rounds s.members s.count s.me s.full c.self.inside.own c.self.inside.heard.items c.self.inside.work.items c.args.self.now c.self.view_is c.self.invariant.0 c.self.invariant.1
              c.args.path.now c.requires.members,
          short_seen g.row.N s.nodes s.rounds s.members s.count s.me s.full c.self.inside.own c.self.inside.heard.items c.self.inside.work.items c.args.self.now c.self.view_is c.self.invariant.0 c.self.invariant.1
              (length c.args.path.now) c.requires.short,
        ),
      ),
    )

pub index_mut-requires : goal.index_mut-requires
index_mut-requires g c =
    let s = c.self.inside.station in
    place_low g.row.N s.nodes s.rounds s.members s.count s.me s.full c.self.inside.own c.self.inside.heard.items c.self.inside.work.items c.args.self.now c.self.view_is c.self.invariant.0 c.self.invariant.1
    c.place-place.result c.self.inside.heard.len c.place-place.ensures.in_range c.self.inside.heard.ok.0

pub invariant_of-self : goal.invariant_of-self
invariant_of-self g c =
    let s = c.self.inside.station in (
      c.self.invariant.0,
      put_room g.row.N s.nodes s.rounds s.members s.count s.me s.full c.self.inside.own c.self.inside.heard.items c.self.inside.work.items c.args.self.now c.self.view_is c.self.invariant.0 c.self.invariant.1
          c.place-place.result c.args.value c.place-place.ensures.in_range c.requires.known,
    )

pub returns : goal.returns
returns g c =
    let s = c.self.inside.station in
    put_seen g.row.N s.nodes s.rounds s.members s.count s.me s.full c.self.inside.own c.self.inside.heard.items c.self.inside.work.items c.args.self.now c.self.view_is c.self.invariant.0 c.self.invariant.1
    c.args.path.now c.args.value c.place-place.result c.place-place.ensures.distinct c.place-place.ensures.some c.requires.members c.requires.others c.requires.short c.place-place.ensures.place
