use Rattle.std.proofs.Common.{◌≡◌, ◌-◌, length, ap, ◌∙◌, arith}
use Rattle.node_grid.specs.CapacityLaws.{capacity-le}
use Rattle.omh_paths.specs.MemberLaws.{path_count-few}
use Rattle.omh.specs.Flat.{section_at}
use Rattle.omh.proofs.Flats.{place_within_len}
use Rattle.omh.proofs.station.Station.place.Goals as goal

pub overflow_add-result : goal.overflow_add-result
overflow_add-result g c =
    let s = c.requires.station in
    let few = path_count-few (length c.args.self.now.members) (length c.args.path.now) (omega (arith, s.count_ok, s.few_ok, s.nodes_ok, capacity-le g.row.N s.capacity_ok)) (omega (arith, c.len.ensures.count, c.len.ensures.few)) in
    omega (arith, c.section_at.ensures.small, c.rank.ensures.in_range, few)

pub returns-clause-in_range : goal.returns-clause-in_range
returns-clause-in_range g c =
    let s = c.requires.station in
    let at : c.section_at.result ≡ section_at c.args.self.now.nodes (length c.args.path.now - 1) = c.section_at.ensures.begins ∙ ap (λ n. section_at c.args.self.now.nodes (n - 1)) c.len.ensures.count in
    let low = place_within_len c.args.self.now.nodes (length c.args.self.now.members) (length c.args.path.now) c.args.self.now.rounds c.rank.result (omega (arith, s.count_ok, s.few_ok)) (omega (arith, c.len.ensures.count, c.len.ensures.some)) c.requires.short c.rank.ensures.in_range in
    omega (arith, low, at)
