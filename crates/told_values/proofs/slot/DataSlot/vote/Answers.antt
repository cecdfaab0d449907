use Rattle.std.proofs.Common.{ℕ, List, sym, ap₂, subst, ◌∙◌, lit<, inl, inr}
use Rattle.node_grid.specs.Capacity.{IsCapacity}
use Rattle.agreed_state.specs.declared.config.Config.{Config}
use Rattle.agreed_state.specs.Agreed.{IsAgreed}
use Rattle.agreed_state.specs.Config.{IsConfig}
use Rattle.data_slot.specs.Values.{by_channel}
use Rattle.data_slot.specs.Votes.{vote_due}
use Rattle.told_values.specs.Slot.{slot_of}
use Rattle.told_values.proofs.Sending.{channels_low}
use Rattle.told_values.proofs.Voting.{votes_are}
use Rattle.told_values.proofs.slot.DataSlot.vote.Goals as goal

pub returns : goal.returns
returns g c = λ j y same is.
    let d = slot_of g.D.Dues.dues c.args.self.now in
    c.vote_due.ensures
    ∙ ap₂ (λ (config : Config g.row.N) (ds : List ℕ). by_channel ds (vote_due config c.args.agreed.now c.args.claims.now c.args.told.now)) c.config.ensures.config (c.due.ensures.due ∙ sym same)
    ∙ votes_are d j y c.args.told.now is c.args.agreed.now c.args.claims.now c.requires.agreed.standing.set

pub vote_due-requires : goal.vote_due-requires
vote_due-requires g c =
    let d = slot_of g.D.Dues.dues c.args.self.now in
    let slot = c.config.ensures.slot in
    let cap : IsCapacity g.row.N = c.config.ensures.capacity in (
      elim cap [ inl e ↦ rw e (lit< tt) | inr e ↦ rw e (lit< tt) ],
      (
        elim cap [ inl e ↦ rw e (lit< tt) | inr e ↦ rw e (lit< tt) ],
        (
          elim cap [ inl e ↦ rw e (lit< tt) | inr e ↦ rw e (lit< tt) ],
          (
            elim cap [ inl e ↦ rw e (lit< tt) | inr e ↦ rw e (lit< tt) ],
            (
              subst (IsConfig g.row.N) (sym c.config.ensures.config) slot.config,
              (
                subst (λ (config : Config g.row.N). IsAgreed g.row.N config c.args.agreed.now) (sym c.config.ensures.config) c.requires.agreed,
                channels_low d slot c.args.i c.requires.node c.config.result.now c.due.result.now c.config.ensures.config c.due.ensures.due,
              ),
            ),
          ),
        ),
      ),
    )
