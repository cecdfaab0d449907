use Rattle.std.proofs.Common.{◌≡◌, ◌<◌, ◌++◌, List, map, length, take, drop, get_or, sym, ap, subst, ◌∙◌, lit<, arith}
use Rattle.omh.specs.Heard.{Hearing}
use Rattle.omh_paths.specs.declared.wrapped.Wrapped.{Wrapped}
use Rattle.omh_paths.specs.declared.wrapped.Wrapped.TheVariants.{Fault}
use Rattle.relay_terms.specs.Terms.{said}
use Rattle.relay_table.specs.declared.station.Station.{Station}
use Rattle.relay_table.specs.Rooms.{IsRoom}
use Rattle.relay_table.specs.Settling.{hearing_of}
use Rattle.relay_table.specs.Tabled.{AreKnown, heard_among}
use Rattle.relay_table.proofs.Known.{nothing_at, known_nothing}
use Rattle.relay_table.proofs.Tables.{written_to, room_written, starts, below_seen}
use Rattle.relay_table.proofs.table.Table.start.Goals as goal

pub seat-requires : goal.seat-requires
seat-requires g c =
    let inside = c.self.inside in
    let s = inside.station in
    let nodes : s.nodes ≡ c.args.self.now.nodes = ap (λ (k : Hearing g.row.V.Denot). k.nodes) c.self.view_is in
    let below = below_seen s (said inside.own) (map said inside.heard.items) c.args.self.now c.self.view_is c.self.invariant.0.seated c.args.members.now c.requires.members in
    (lit< tt, (lit< tt, (c.self.invariant.0, (below, omega (arith, c.requires.me, nodes)))))

pub invariant_of-self : goal.invariant_of-self
invariant_of-self g c =
    let inside = c.self.inside in
    let s = inside.station in
    let room =
    room_written s.nodes s.rounds inside.heard.items c.as_mut_slice.result.now c.forget.new.terms inside.settled.items inside.heard.len c.self.invariant.1 inside.heard.ok.0 c.as_mut_slice.ensures.value c.forget.auto.terms
    (subst AreKnown (sym c.forget.ensures) (known_nothing (length c.as_mut_slice.result.now))) in
    (c.seat.ensures.station, subst (λ (x : Station g.row.N). IsRoom x.nodes x.rounds (take inside.heard.len (c.forget.new.terms ++ drop (length c.forget.new.terms) inside.heard.items)) inside.settled.items) (sym c.seat.ensures.seat) room)

pub returns : goal.returns
returns g c =
    let inside = c.self.inside in
    let s = inside.station in
    let members = c.args.members.now in
    let told = said c.item-self-inside.result in
    let new = c.forget.new.terms in
    let now = written_to inside.heard.items c.as_mut_slice.result.now new inside.heard.len inside.heard.ok.0 c.as_mut_slice.ensures.value c.forget.auto.terms in
    ap (λ (x : Station g.row.N). hearing_of x told (map said (take inside.heard.len (new ++ drop (length new) inside.heard.items)))) c.seat.ensures.seat
    ∙ ap (λ ts. record { nodes = s.nodes; rounds = s.rounds; members = members; me = c.args.me; full = c.args.full; own = told; heard = heard_among members c.args.me s.rounds (map said ts) }) now
    ∙ starts s (said inside.own) (map said inside.heard.items) c.args.self.now c.self.view_is c.self.invariant.0.seated members c.args.me c.args.full c.args.own told (map said new) c.item-self-inside.ensures
    (λ k. ap (λ (ts : List (Wrapped g.row.V.Denot)). get_or ts k (Fault 0)) c.forget.ensures ∙ nothing_at (length c.as_mut_slice.result.now) k)
