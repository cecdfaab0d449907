use Rattle.std.proofs.Common.{◌≡◌, ◌∷◌, [], map, length, true, sym, ap, subst, ◌∙◌, lit<, arith}
use Rattle.std.proofs.lemmas.List.{length-map}
use Rattle.node_grid.specs.NodeSet.{has_id}
use Rattle.omh_paths.specs.Paths.{index_in}
use Rattle.relay_terms.specs.Terms.{said}
use Rattle.relay_walk.specs.Laid.{laid}
use Rattle.relay_table.specs.Settling.{hearing_of}
use Rattle.relay_table.specs.Tabled.{AreKnown, term_of}
use Rattle.relay_table.proofs.Stations.{section_fits}
use Rattle.relay_table.proofs.Tables.{written_to, room_written, others_are, kept-some}
use Rattle.relay_table.proofs.OneItem.{hears_item}
use Rattle.relay_table.proofs.table.Table.hear_item.Goals as goal

pub hear_item-requires : goal.hear_item-requires
hear_item-requires g c =
    let inside = c.self.inside in
    let s = inside.station in
    let room = c.self.invariant.1 in
    let is = c.as_mut_slice.ensures.value in
    let on : has_id s.others c.args.member ≡ true = ap (λ os. has_id os c.args.member) (others_are s (said inside.own) (map said inside.heard.items) c.args.self.now c.self.view_is c.self.invariant.0.seated) ∙ c.requires.member in
    (lit< tt, (c.self.invariant.0.seated, (on, record { heard_ok = ap (λ ts. length ts) is ∙ room.heard_ok; known = subst (λ ts. AreKnown (map said ts)) (sym is) room.known })))

pub invariant_of-self : goal.invariant_of-self
invariant_of-self g c =
    let inside = c.self.inside in
    let s = inside.station in
    let room = room_written s.nodes s.rounds inside.heard.items c.as_mut_slice.result.now c.hear_item.new.heard inside.settled.items inside.heard.len c.self.invariant.1 inside.heard.ok.0 c.as_mut_slice.ensures.value c.hear_item.ensures.length c.hear_item.ensures.known in
    (c.self.invariant.0, room)

pub returns : goal.returns
returns g c =
    let inside = c.self.inside in
    let s = inside.station in
    let new = c.hear_item.new.heard in
    let flat = map said inside.heard.items in
    let now = written_to inside.heard.items c.as_mut_slice.result.now new inside.heard.len inside.heard.ok.0 c.as_mut_slice.ensures.value c.hear_item.ensures.length in
    let fits = section_fits c.self.invariant.0.seated 1 (kept-some s.rounds) in
    let on : has_id s.others c.args.member ≡ true = ap (λ os. has_id os c.args.member) (others_are s (said inside.own) flat c.args.self.now c.self.view_is c.self.invariant.0.seated) ∙ c.requires.member in
    ap (λ ts. hearing_of s (said inside.own) (map said ts)) now
    ∙ hears_item s (said inside.own) flat c.args.self.now c.self.view_is c.self.invariant.0.seated c.args.member (term_of c.args.told) (map said new) on (omega (arith, fits, c.self.invariant.1.heard_ok, length-map inside.heard.items said))
    (c.hear_item.ensures.heard ∙ ap (λ ts. laid (index_in s.others c.args.member) (term_of c.args.told ∷ []) (map said ts)) c.as_mut_slice.ensures.value)
