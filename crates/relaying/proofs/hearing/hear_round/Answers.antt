use Rattle.std.proofs.Common.{ℕ, sym, ap, subst, ◌∙◌, lit<, inl, inr, arith}
use Rattle.node_grid.specs.NodeSet.{has_id, IsIdSet}
use Rattle.relay_terms.specs.Terms.{term_in}
use Rattle.relay_walk.specs.Walking.{entries_of}
use Rattle.relay_rules.specs.Hearing.{after_round}
use Rattle.relaying.proofs.Told.{round_by_frames, fewer_ids, kept_round}
use Rattle.relaying.proofs.hearing.hear_round.Goals as goal

pub hear_items-requires : goal.hear_items-requires
hear_items-requires g c = (assumption, (lit< tt, c.requires.heard.closed))

pub returns-then-round-eq0 : goal.returns-then-round-eq0
returns-then-round-eq0 g c = c.hear_items.ensures ∙ ap (λ (r : ℕ). after_round g.V.RelayedItem.form c.args.table.now.nodes c.args.watch.now r c.args.table.now) (sym c.if-round-eq0.true)

pub round_of-frames-requires : goal.round_of-frames-requires
round_of-frames-requires g c =
    (assumption, (lit< tt, ((elim c.nodes-capacity.ensures.capacity [ inl e ↦ rw e (lit< tt) | inr e ↦ rw e (lit< tt) ]), record { some = omega (arith, c.if-round-eq0.false); within = kept_round c.args.round c.args.table.now.rounds c.requires.kept; heard = c.requires.heard })))

pub hear_round-requires : goal.hear_round-requires
hear_round-requires g c =
    (assumption, ((elim c.nodes-capacity.ensures.capacity [ inl e ↦ rw e (lit< tt) | inr e ↦ rw e (lit< tt) ]), (omega (arith, c.if-round-eq0.false), (c.requires.kept, c.round_of-frames.ensures.walk))))

pub returns : goal.returns
returns g c =
    let h = c.args.table.now in
    let w = c.args.watch.now in
    let ids : IsIdSet h.nodes h.members =
    fewer_ids g.row.N h.nodes h.members (subst (IsIdSet g.row.N) c.members-members.ensures.members c.members-members.ensures.ids) (omega (arith, c.nodes-capacity.ensures.few, c.nodes-capacity.ensures.nodes))
    (λ q on. c.members-members.ensures.low q (ap (λ ms. has_id ms q) c.members-members.ensures.members ∙ on)) in
    c.hear_round.ensures
    ∙ round_by_frames g.V.RelayedItem.form w h.nodes c.args.round h (entries_of (term_in g.V.Item.of_bytes) c.round_of-frames.result) ids c.members-members.ensures.paths (omega (arith, c.if-round-eq0.false)) c.round_of-frames.ensures.told
