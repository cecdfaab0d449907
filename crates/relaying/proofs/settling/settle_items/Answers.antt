use Rattle.std.proofs.Common.{ℕ, ◌<◌, map, sym, ap, subst, ◌∙◌, lit<, inl, inr, arith}
use Rattle.node_grid.specs.NodeSet.{has_id, IsIdSet}
use Rattle.node_grid.specs.ListFacts.{map_map}
use Rattle.protocol.specs.Settled.{plain}
use Rattle.relay_terms.specs.Terms.{said, term_in}
use Rattle.relay_walk.specs.Walking.{IsWalk, entries_of}
use Rattle.relay_table.specs.Tabled.{others_in, after_frames}
use Rattle.relay_rules.specs.Settling.{settled_in}
use Rattle.relaying.specs.Told.{IsRoundHeard}
use Rattle.relaying.proofs.Told.{round_by_frames, fewer_ids}
use Rattle.relaying.proofs.LastRound.{plain_settled, heard_first, heard_last}
use Rattle.relaying.proofs.settling.settle_items.Goals as goal

pub settle_items-requires : goal.settle_items-requires
settle_items-requires g c = (assumption, (sym c.rounds-rounds.ensures.rounds ∙ c.if-rounds-eq0.true, c.requires.room))

pub returns-then-rounds-eq0-clause-settled : goal.returns-then-rounds-eq0-clause-settled
returns-then-rounds-eq0-clause-settled g c = λ was kept.
    sym (map_map said plain c.settle_items.new.items) ∙ ap (map plain) c.settle_items.ensures ∙ plain_settled g.V.PartialEq.eq g.row.N c.args.table.now
    ∙ ap (settled_in g.V.PartialEq.eq g.row.N) (heard_first g.V.PartialEq.eq g.V.RelayedItem.form c.args.watch.now was c.args.table.now kept (sym c.rounds-rounds.ensures.rounds ∙ c.if-rounds-eq0.true))

pub round_of-frames-requires : goal.round_of-frames-requires
round_of-frames-requires g c =
    let h = c.args.table.now in (
      assumption,
      (
        lit< tt,
        (
          elim c.nodes-capacity.ensures.capacity [ inl e ↦ rw e (lit< tt) | inr e ↦ rw e (lit< tt) ],
          record { some = omega (arith, c.if-rounds-eq0.false); within = omega (arith, c.rounds-rounds.ensures.rounds); heard = subst (λ (r : ℕ). IsRoundHeard g.row.N g.V.RelayedItem.kind r h c.args.watch.now) (sym c.rounds-rounds.ensures.rounds) c.requires.heard },
        ),
      ),
    )

pub settle_round-requires : goal.settle_round-requires
settle_round-requires g c =
    let h = c.args.table.now in (
      assumption,
      (
        elim c.nodes-capacity.ensures.capacity [ inl e ↦ rw e (lit< tt) | inr e ↦ rw e (lit< tt) ],
        (omega (arith, c.if-rounds-eq0.false, c.rounds-rounds.ensures.rounds), (c.requires.room, subst (λ (r : ℕ). IsWalk h.members (others_in h) r 0 c.round_of-frames.result) c.rounds-rounds.ensures.rounds c.round_of-frames.ensures.walk)),
      ),
    )

pub returns-clause-settled : goal.returns-clause-settled
returns-clause-settled g c = λ was kept.
    let h = c.args.table.now in
    let w = c.args.watch.now in
    let ids : IsIdSet h.nodes h.members =
    fewer_ids g.row.N h.nodes h.members (subst (IsIdSet g.row.N) c.members-members.ensures.members c.members-members.ensures.ids) (omega (arith, c.nodes-capacity.ensures.few, c.nodes-capacity.ensures.nodes))
    (λ q on. c.members-members.ensures.low q (ap (λ ms. has_id ms q) c.members-members.ensures.members ∙ on)) in
    let some : 0 < h.rounds = omega (arith, c.if-rounds-eq0.false, c.rounds-rounds.ensures.rounds) in
    sym (map_map said plain c.settle_round.new.items) ∙ ap (map plain) c.settle_round.ensures.settled ∙ plain_settled g.V.PartialEq.eq g.row.N (after_frames (entries_of (term_in g.V.Item.of_bytes) c.round_of-frames.result) h.rounds h)
    ∙ ap (settled_in g.V.PartialEq.eq g.row.N)
    (round_by_frames g.V.RelayedItem.form w h.nodes h.rounds h (entries_of (term_in g.V.Item.of_bytes) c.round_of-frames.result) ids c.members-members.ensures.paths some c.round_of-frames.ensures.told
    ∙ heard_last g.V.PartialEq.eq g.V.RelayedItem.form w was h kept)
