use Rattle.omh.proofs.Tables.{start_seen_as, start_station, start_room_as, written_back}
use Rattle.omh.proofs.table.Table.start.Goals as goal

pub invariant_of-self : goal.invariant_of-self
invariant_of-self g c =
    let s = c.self.inside.station in
    let now = written_back c.self.inside.heard.items c.as_mut_slice.result.now c.forget.new.values c.self.inside.heard.len c.self.inside.heard.ok.0 c.as_mut_slice.ensures.value c.forget.ensures in (
      start_station g.row.N s.nodes s.rounds s.members s.count s.me s.full c.self.inside.own c.self.inside.heard.items c.self.inside.work.items c.args.self.now c.self.view_is c.self.invariant.0 c.self.invariant.1
          c.args.members.now c.len-self-inside.result c.len-self-inside.ensures.ids c.len-self-inside.ensures.count c.requires.members,
      start_room_as g.row.N s.nodes s.rounds s.members s.count s.me s.full c.self.inside.own c.self.inside.heard.items c.self.inside.work.items c.args.self.now c.self.view_is c.self.invariant.0 c.self.invariant.1 _ now,
    )

pub returns : goal.returns
returns g c =
    let s = c.self.inside.station in
    let now = written_back c.self.inside.heard.items c.as_mut_slice.result.now c.forget.new.values c.self.inside.heard.len c.self.inside.heard.ok.0 c.as_mut_slice.ensures.value c.forget.ensures in
    start_seen_as g.row.N s.nodes s.rounds s.members s.count s.me s.full c.self.inside.own c.self.inside.heard.items c.self.inside.work.items c.args.self.now c.self.view_is c.self.invariant.0 c.self.invariant.1
    c.args.members.now c.args.me c.args.full c.args.own _ now
