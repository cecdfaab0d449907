use Rattle.std.proofs.Common.{length, ◌∙◌, lit<, inl, inr}
use Rattle.node_grid.specs.Capacity.{IsCapacity}
use Rattle.node_grid.specs.NodeSetLaws.{All-ids}
use Rattle.data_slot.proofs.Voting.{TellsValues, votes_are, offs_are}
use Rattle.data_slot.proofs.vote.DataSlot.vote.Goals as goal

pub vote_due-votes-requires : goal.vote_due-votes-requires
vote_due-votes-requires g c =
    let cap : IsCapacity g.row.N = g.bound-1.eight_or_sixteen in (
      elim cap [ inl e ↦ rw e (lit< tt) | inr e ↦ rw e (lit< tt) ],
      (
        elim cap [ inl e ↦ rw e (lit< tt) | inr e ↦ rw e (lit< tt) ],
        (
          elim cap [ inl e ↦ rw e (lit< tt) | inr e ↦ rw e (lit< tt) ],
          (
            elim cap [ inl e ↦ rw e (lit< tt) | inr e ↦ rw e (lit< tt) ],
            (c.requires.config, (c.requires.agreed, All-ids (length c.args.config.now.channels.items) c.args.self.now.due.now c.requires.due)),
          ),
        ),
      ),
    )

pub deviating-off-requires : goal.deviating-off-requires
deviating-off-requires g c =
    let cap : IsCapacity g.row.N = g.bound-1.eight_or_sixteen in (
      elim cap [ inl e ↦ rw e (lit< tt) | inr e ↦ rw e (lit< tt) ],
      (
        elim cap [ inl e ↦ rw e (lit< tt) | inr e ↦ rw e (lit< tt) ],
        (lit< tt, (c.requires.config, All-ids (length c.args.config.now.channels.items) c.args.self.now.due.now c.requires.due)),
      ),
    )

pub returns-clause-votes : goal.returns-clause-votes
returns-clause-votes g c =
    let slot = c.args.self.now in
    let told : TellsValues c.args.config.now.nodes slot.me slot.full slot.due.now slot.own.now c.args.watch.now c.hear-told.result = record { each = c.hear-told.ensures } in
    c.vote_due-votes.ensures
    ∙ votes_are c.args.config.now slot.me slot.full c.args.agreed.now c.args.claims.now slot.due.now slot.own.now c.args.watch.now c.hear-told.result told c.requires.agreed.standing.set

pub returns-clause-off : goal.returns-clause-off
returns-clause-off g c =
    let slot = c.args.self.now in
    let told : TellsValues c.args.config.now.nodes slot.me slot.full slot.due.now slot.own.now c.args.watch.now c.hear-told.result = record { each = c.hear-told.ensures } in
    c.deviating-off.ensures
    ∙ offs_are c.args.config.now slot.me slot.full slot.due.now slot.own.now c.args.watch.now c.hear-told.result c.vote_due-votes.result told

pub hear-told-requires : goal.hear-told-requires
hear-told-requires g c =
    let cap : IsCapacity g.row.N = g.bound-1.eight_or_sixteen in
    (lit< tt, (elim cap [ inl e ↦ rw e (lit< tt) | inr e ↦ rw e (lit< tt) ], (elim cap [ inl e ↦ rw e (lit< tt) | inr e ↦ rw e (lit< tt) ], (c.requires.config, (c.requires.due, c.requires.heard)))))
