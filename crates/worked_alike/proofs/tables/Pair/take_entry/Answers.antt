use Rattle.std.proofs.Common.{ℕ, ◌≡◌, List, false, length, refl, ap, sym, ◌∙◌, arith, lit<}
use Rattle.std.proofs.lemmas.List.{length_push}
use Rattle.node_grid.specs.NodeSet.{has_id, without_id}
use Rattle.omh_paths.specs.PathLists.{has-of-without}
use Rattle.worked_alike.proofs.Paths.{among_members, avoids, longer_among, longer_avoids}
use Rattle.worked_alike.proofs.tables.Pair.take_entry.Goals as goal

pub relay-echo-requires : goal.relay-echo-requires
relay-echo-requires c =
    let self = c.args.self.now in
    let seat = self.seat in
    let q = c.args.turn.sender in
    let path = c.in-Some.path in
    let within = among_members seat.members (without_id seat.members q) path q refl c.in-Some.ensures.1 in (
      lit< tt,
      (
        (λ x on. ap (λ (s : List ℕ). has_id s x) self.members.0 ∙ within x on),
        (rw self.me.0 (sym c.has.ensures ∙ c.if-has.false), omega (arith, c.in-Some.ensures.0, seat.within, self.rounds.0)),
      ),
    )

pub then-requires-clause-off : goal.then-requires-clause-off
then-requires-clause-off c =
    let members = c.args.self.now.seat.members in
    let q = c.args.turn.sender in
    avoids members (without_id members q) c.in-Some.path q refl c.in-Some.ensures.1

pub put-requires : goal.put-requires
put-requires c =
    let self = c.args.self.now in
    let seat = self.seat in
    let q = c.args.turn.sender in
    let path = c.in-Some.path in
    let off : has_id path seat.me ≡ false = sym c.has.ensures ∙ c.if-has.false in
    let within = among_members seat.members (without_id seat.members q) path q refl c.in-Some.ensures.1 in (
      lit< tt,
      (
        (λ x on. ap (λ (s : List ℕ). has_id s x) self.members.0 ∙ longer_among seat.members path q within (has-of-without seat.members seat.me q c.requires) x (ap (λ (p : List ℕ). has_id p x) (sym c.then.ensures) ∙ on)),
        (rw (c.then.ensures, self.me.0) (longer_avoids seat.members path seat.me q off c.requires), (omega (arith, ap length c.then.ensures, length_push path q, c.in-Some.ensures.0, seat.within, self.rounds.0), c.as_relayed-said.ensures.known)),
      ),
    )
