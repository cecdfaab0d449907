use Rattle.std.proofs.Common.{◌==◌, ◌&&◌, not, map, length, sym, ap, subst, ◌∙◌, lit<, arith}
use Rattle.node_grid.specs.NodeSet.{has_id, ids_where}
use Rattle.equivocation.specs.Conviction.{convicts}
use Rattle.omh.specs.Heard.{Hearing, ear_of}
use Rattle.relay_terms.specs.Terms.{said}
use Rattle.relay_table.specs.Settling.{IsHeardBy, hearing_of}
use Rattle.relay_table.specs.Tabled.{AreKnown, kept_nodes}
use Rattle.relay_table.proofs.Stations.{section_fits}
use Rattle.relay_table.proofs.Tables.{heard_by}
use Rattle.relay_table.proofs.table.Table.convicted.Goals as goal

pub convicted-requires : goal.convicted-requires
convicted-requires g c =
    let s = c.self.inside.station in
    let st = c.self.invariant.0.seated in
    let room = c.self.invariant.1 in
    let is = c.as_slice.ensures.value in
    (lit< tt, (lit< tt, (st, record { heard_ok = ap (λ ts. length ts) is ∙ room.heard_ok; known = subst (λ ts. AreKnown (map said ts)) (sym is) room.known })))

pub returns : goal.returns
returns g c =
    let inside = c.self.inside in
    let s = inside.station in
    let flat = map said inside.heard.items in
    let x = ear_of (hearing_of s (said inside.own) flat) in
    let heard = subst (λ ts. IsHeardBy s (map said ts) x) (sym c.as_slice.ensures.value) (heard_by s (said inside.own) flat c.args.self.now c.self.view_is c.self.invariant.0.seated) in
    c.convicted.ensures x heard ∙ ap (λ (k : Hearing g.row.V.Denot). ids_where (λ c. not (c == k.me) && (has_id k.members c && convicts g.V.PartialEq.eq (ear_of k) c)) g.row.N) c.self.view_is
