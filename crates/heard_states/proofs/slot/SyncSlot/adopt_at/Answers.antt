use Rattle.std.proofs.Common.{◌<◌, List, Option, length, inl, inr, lit<, sym, ap, ◌∙◌, arith}
use Rattle.std.proofs.lemmas.Bool.{cases_eq}
use Rattle.agreed_state.specs.Agreed.{AgreedView}
use Rattle.shared_states.specs.Sharing.{state_at, shared_with}
use Rattle.heard_states.proofs.Given.{shared_own, shared_other, shared_long}
use Rattle.heard_states.proofs.Leaders.{leader_there, leads}
use Rattle.heard_states.proofs.slot.SyncSlot.adopt_at.Goals as goal

pub share-requires : goal.share-requires
share-requires g c =
    let few = c.requires.senders.slot_is.config.few_nodes in
    let used = c.requires.node in (
      elim c.requires.senders.slot_is.capacity [ inl e ↦ rw e (lit< tt) | inr e ↦ rw e (lit< tt) ],
      (omega arith, leader_there c.requires.senders c.args.i c.in-Some.leader c.requires.node c.requires.none c.in-Some.ensures),
    )

pub returns-in-Some-clause-own : goal.returns-in-Some-clause-own
returns-in-Some-clause-own g c =
    let few = c.requires.senders.slot_is.config.few_nodes in
    let used = c.requires.node in
    let low : c.args.i < g.row.N = omega arith in
    ap (λ (w : List (Option AgreedView)). state_at w c.args.i) c.share.ensures
    ∙ shared_own g.row.N c.args.states.now c.args.i c.in-Some.leader low c.requires.senders.long
    ∙ sym (leads c.requires.senders c.args.i c.in-Some.leader c.requires.node c.requires.none c.in-Some.ensures)

pub returns-in-Some-clause-others : goal.returns-in-Some-clause-others
returns-in-Some-clause-others g c = λ k other.
    let few = c.requires.senders.slot_is.config.few_nodes in
    let used = c.requires.node in
    let low : c.args.i < g.row.N = omega arith in
    ap (λ (w : List (Option AgreedView)). state_at w k) c.share.ensures ∙ shared_other g.row.N c.args.states.now c.args.i c.in-Some.leader low c.requires.senders.long k other

pub returns-in-Some-clause-long : goal.returns-in-Some-clause-long
returns-in-Some-clause-long g c =
    let few = c.requires.senders.slot_is.config.few_nodes in
    let used = c.requires.node in
    let low : c.args.i < g.row.N = omega arith in
    ap length c.share.ensures ∙ shared_long g.row.N c.args.states.now c.args.i c.in-Some.leader low c.requires.senders.long

pub returns-in-Some-clause-agreed : goal.returns-in-Some-clause-agreed
returns-in-Some-clause-agreed g c = λ k b e.
    let v = c.args.states.now in
    let i = c.args.i in
    let j = c.in-Some.leader in
    let few = c.requires.senders.slot_is.config.few_nodes in
    let used = c.requires.node in
    let low : i < g.row.N = omega arith in
    let at = ap (λ (w : List (Option AgreedView)). state_at w k) (sym c.share.ensures) ∙ e in
    elim (cases_eq k i) [
      | inl same ↦ c.requires.senders.agreed j b (sym (ap (state_at (shared_with g.row.N v i j)) same ∙ shared_own g.row.N v i j low c.requires.senders.long) ∙ at)
      | inr other ↦ c.requires.senders.agreed k b (sym (shared_other g.row.N v i j low c.requires.senders.long k other) ∙ at)
    ]
