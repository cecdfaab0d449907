use Rattle.std.proofs.Common.{◌+◌, ◌*◌, refl, arith}
use Rattle.omh.proofs.Folding.{first_few, branch_is}
use Rattle.omh.proofs.station.Station.branch.Goals as goal

pub overflow_mul-first : goal.overflow_mul-first
overflow_mul-first g c =
    let s = c.args.self.now in
    let few = first_few g.row.N s.nodes s.rounds s.members s.count c.args.commander c.args.relays c.count_paths-paths.result c.requires.station c.requires.member c.requires.few c.count_paths-paths.ensures.product in
    omega (arith, few.1)

pub overflow_add-result : goal.overflow_add-result
overflow_add-result g c =
    let s = c.args.self.now in
    let few = first_few g.row.N s.nodes s.rounds s.members s.count c.args.commander c.args.relays c.count_paths-paths.result c.requires.station c.requires.member c.requires.few c.count_paths-paths.ensures.product in
    omega (arith, few.1, c.section_at.ensures.small)

pub returns : goal.returns
returns g c =
    let s = c.args.self.now in
    branch_is g.row.N s.nodes s.rounds s.members s.count c.args.commander c.args.relays
    (record { first = c.args.commander * c.count_paths-paths.result; begins = c.section_at.result + c.args.commander * c.count_paths-paths.result; paths = c.count_paths-paths.result })
    c.requires.station c.requires.member c.requires.few (omega (arith, c.section_at.ensures.begins, c.section_at.ensures.small)) c.count_paths-paths.ensures.product refl (omega (arith, c.section_at.ensures.begins))
