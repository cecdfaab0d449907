use Rattle.std.proofs.Common.{◌≡◌, map, length, ap, ◌∙◌, lit<, arith}
use Rattle.node_grid.specs.NodeSet.{ids_below}
use Rattle.relay_terms.specs.Terms.{said}
use Rattle.relay_table.specs.Settling.{settled_at_place}
use Rattle.relay_table.specs.Tabled.{heard_among, settled_in}
use Rattle.relay_table.proofs.Stations.{section_fits}
use Rattle.relay_table.proofs.Tables.{kept-some, rounds_are, handed, settled_unrelayed}
use Rattle.relay_table.proofs.table.Table.settle_items.Goals as goal

pub hand_out-requires : goal.hand_out-requires
hand_out-requires g c =
    let s = c.self.inside.station in
    let st = c.self.invariant.0.seated in
    let fits = section_fits st 1 (kept-some s.rounds) in
    (lit< tt, (st, (omega (arith, fits, c.self.invariant.1.heard_ok, ap (λ ts. length ts) c.as_slice.ensures.value), c.requires.room)))

pub returns : goal.returns
returns g c =
    let inside = c.self.inside in
    let s = inside.station in
    let st = c.self.invariant.0.seated in
    let eq = g.V.PartialEq.eq in
    let own = said inside.own in
    let flat = map said inside.heard.items in
    let h = c.args.self.now in
    let none : s.rounds ≡ 0 = rounds_are s own flat h c.self.view_is st ∙ c.requires.none in
    c.hand_out.ensures
    ∙ ap (λ ts. map (settled_at_place s.members s.others s.me s.full own (map said ts)) (ids_below g.row.N)) c.as_slice.ensures.value
    ∙ handed s own flat h c.self.view_is st eq (heard_among s.members s.me s.rounds flat) flat (settled_unrelayed s own flat h c.self.view_is st eq none)
    ∙ ap (settled_in eq g.row.N) c.self.view_is
