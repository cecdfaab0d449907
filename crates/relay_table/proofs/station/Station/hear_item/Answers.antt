use Rattle.std.proofs.Common.{◌≡◌, true, ◌∷◌, [], map, sym, ap, subst, ◌∙◌, lit<, arith}
use Rattle.std.proofs.lemmas.List.{length-map}
use Rattle.node_grid.specs.NodeSet.{has_id}
use Rattle.node_grid.specs.SetFacts.{member-lt}
use Rattle.omh_paths.specs.MemberLaws.{place-index}
use Rattle.omh_paths.specs.Paths.{index_in}
use Rattle.omh_paths.specs.PathLists.{index_in-lt, has-of-without}
use Rattle.relay_terms.specs.Terms.{said}
use Rattle.relay_walk.specs.Laid.{laid}
use Rattle.relay_table.specs.Tabled.{AreKnown}
use Rattle.relay_table.proofs.Known.{known_laid, known_item, known_one}
use Rattle.relay_table.proofs.Stations.{section_fits}
use Rattle.relay_table.proofs.Tables.{kept-some}
use Rattle.relay_table.proofs.station.Station.hear_item.Goals as goal

pub place-place-requires : goal.place-place-requires
place-place-requires g c =
    let s = c.args.self.now in
    let on : has_id s.members c.args.member ≡ true = has-of-without s.members s.me c.args.member (ap (λ os. has_id os c.args.member) (sym c.requires.station.others_ok) ∙ c.requires.member) in
    (lit< tt, member-lt g.row.N s.members c.args.member c.requires.station.members_ok on)

pub set_term-requires : goal.set_term-requires
set_term-requires g c =
    let s = c.args.self.now in
    let index = c.place-place.ensures.count ∙ place-index g.row.N s.others c.args.member c.place-place.ensures.ids c.requires.member in
    omega (arith, index, index_in-lt s.others c.args.member c.requires.member, c.requires.room.heard_ok, section_fits c.requires.station 1 (kept-some s.rounds))

pub returns-clause-heard : goal.returns-clause-heard
returns-clause-heard g c =
    let s = c.args.self.now in
    let old = map said c.args.heard.now in
    let index = c.place-place.ensures.count ∙ place-index g.row.N s.others c.args.member c.place-place.ensures.ids c.requires.member in
    c.set_term.ensures.terms ∙ ap (λ k. laid k (said c.term_told.result ∷ []) old) index ∙ ap (λ x. laid (index_in s.others c.args.member) (x ∷ []) old) c.term_told.ensures

pub returns-clause-known : goal.returns-clause-known
returns-clause-known g c =
    let s = c.args.self.now in
    let old = map said c.args.heard.now in
    let index = c.place-place.ensures.count ∙ place-index g.row.N s.others c.args.member c.place-place.ensures.ids c.requires.member in
    let low = index_in-lt s.others c.args.member c.requires.member in
    let term = said c.term_told.result in
    subst AreKnown (sym c.set_term.ensures.terms) (known_laid c.place-place.result (term ∷ []) old (known_one term (λ bad. known_item c.args.told (sym c.term_told.ensures ∙ bad))) c.requires.room.known
    (omega (arith, index, low, length-map c.args.heard.now said, c.requires.room.heard_ok, section_fits c.requires.station 1 (kept-some s.rounds))))
