use Rattle.std.proofs.Common.{◌≡◌, ◌<◌, ◌+◌, [], get_or, length, ap, ◌∙◌, arith}
use Rattle.std.proofs.lemmas.List.{get_or_default}
use Rattle.omh_paths.specs.MemberLaws.{path_count-few}
use Rattle.relay_table.specs.Free.{free_begins}
use Rattle.relay_table.proofs.Stations.{few_members, sixteen_members, free_there, set_there}
use Rattle.relay_table.proofs.station.Station.outside.Goals as goal

pub free_begins-requires-clause-members : goal.free_begins-requires-clause-members
free_begins-requires-clause-members g c = omega (arith, c.len.ensures.count, sixteen_members c.requires.station.seated)

pub overflow_add-free_begins : goal.overflow_add-free_begins
overflow_add-free_begins g c =
    let st = c.requires.station.seated in
    omega (arith, c.free_begins.ensures.small, c.requires.place, path_count-few (length c.args.self.now.members) c.args.len (sixteen_members st) (omega (arith, c.requires.short, st.rounds_ok)))

pub index-requires : goal.index-requires
index-requires g c =
    let s = c.args.self.now in
    let st = c.requires.station in
    omega (arith, set_there s.nodes s.rounds s.members s.free.items c.len.result c.args.len c.args.k st.sets c.len.ensures.count (few_members st.seated) c.requires.short c.requires.place, c.free_begins.ensures.begins, s.free.ok.0)

pub returns : goal.returns
returns g c =
    let s = c.args.self.now in
    let low = set_there s.nodes s.rounds s.members s.free.items c.len.result c.args.len c.args.k c.requires.station.sets c.len.ensures.count (few_members c.requires.station.seated) c.requires.short c.requires.place in
    let at : c.index.result.now ≡ get_or s.free.items (free_begins c.len.result c.args.len + c.args.k) [] =
    c.index.ensures ∙ get_or_default s.free.items (c.free_begins.result + c.args.k) c.index.result.now [] (omega (arith, low, c.free_begins.ensures.begins))
    ∙ ap (λ b. get_or s.free.items (b + c.args.k) []) c.free_begins.ensures.begins in
    free_there s.nodes s.rounds s.members s.free.items c.len.result c.args.len c.args.k c.index.result.now c.requires.station.sets c.len.ensures.count c.requires.short c.requires.place at
