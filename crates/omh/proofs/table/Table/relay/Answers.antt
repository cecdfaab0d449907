use Rattle.std.proofs.Common.{length, lit<, ap, ◌∙◌}
use Rattle.omh_paths.specs.Wrapped.{wrapped}
use Rattle.omh.proofs.Tables.{heard_seen, members_seen, short_seen, place_low}
use Rattle.omh.proofs.table.Table.relay.Goals as goal

pub place-requires : goal.place-requires
place-requires g c =
    let s = c.self.inside.station in (
      lit< tt,
      (
        c.self.invariant.0,
        (
          members_seen g.row.N s.nodes s.rounds s.members s.count s.me s.full c.self.inside.own c.self.inside.heard.items c.self.inside.work.items c.args.self.now c.self.view_is c.self.invariant.0 c.self.invariant.1
              c.args.path.now c.requires.members,
          short_seen g.row.N s.nodes s.rounds s.members s.count s.me s.full c.self.inside.own c.self.inside.heard.items c.self.inside.work.items c.args.self.now c.self.view_is c.self.invariant.0 c.self.invariant.1
              (length c.args.path.now) c.requires.short,
        ),
      ),
    )

pub index-requires : goal.index-requires
index-requires g c =
    let s = c.self.inside.station in
    place_low g.row.N s.nodes s.rounds s.members s.count s.me s.full c.self.inside.own c.self.inside.heard.items c.self.inside.work.items c.args.self.now c.self.view_is c.self.invariant.0 c.self.invariant.1
    c.place.result c.self.inside.heard.len c.place.ensures.in_range c.self.inside.heard.ok.0

pub returns : goal.returns
returns g c =
    let s = c.self.inside.station in
    c.wrap.ensures ∙ ap wrapped (heard_seen g.row.N s.nodes s.rounds s.members s.count s.me s.full c.self.inside.own c.self.inside.heard.items c.self.inside.work.items c.args.self.now c.self.view_is c.self.invariant.0 c.self.invariant.1
    c.args.path.now c.index.result.now c.place.result c.place.ensures.distinct c.place.ensures.some c.requires.members c.requires.others c.requires.short c.place.ensures.place c.index.ensures)
