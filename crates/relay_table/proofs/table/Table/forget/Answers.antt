use Rattle.std.proofs.Common.{List, map, length, get_or, sym, ap, subst, ◌∙◌}
use Rattle.omh_paths.specs.declared.wrapped.Wrapped.{Wrapped}
use Rattle.omh_paths.specs.declared.wrapped.Wrapped.TheVariants.{Fault}
use Rattle.relay_terms.specs.Terms.{said}
use Rattle.relay_table.specs.Settling.{hearing_of}
use Rattle.relay_table.specs.Tabled.{AreKnown}
use Rattle.relay_table.proofs.Known.{nothing_at, known_nothing}
use Rattle.relay_table.proofs.Tables.{written_to, room_written, forgets}
use Rattle.relay_table.proofs.table.Table.forget.Goals as goal

pub invariant_of-self : goal.invariant_of-self
invariant_of-self g c =
    let inside = c.self.inside in
    let s = inside.station in
    let room = room_written s.nodes s.rounds inside.heard.items c.as_mut_slice.result.now c.forget.new.terms inside.settled.items inside.heard.len c.self.invariant.1 inside.heard.ok.0 c.as_mut_slice.ensures.value c.forget.auto.terms (subst AreKnown (sym c.forget.ensures) (known_nothing (length c.as_mut_slice.result.now))) in
    (c.self.invariant.0, room)

pub returns : goal.returns
returns g c =
    let inside = c.self.inside in
    let new = c.forget.new.terms in
    let now = written_to inside.heard.items c.as_mut_slice.result.now new inside.heard.len inside.heard.ok.0 c.as_mut_slice.ensures.value c.forget.auto.terms in
    ap (λ ts. hearing_of inside.station (said inside.own) (map said ts)) now
    ∙ forgets inside.station (said inside.own) (map said inside.heard.items) c.args.self.now c.self.view_is c.self.invariant.0.seated (map said new)
    (λ k. ap (λ (ts : List (Wrapped g.row.V.Denot)). get_or ts k (Fault 0)) c.forget.ensures ∙ nothing_at (length c.as_mut_slice.result.now) k)
