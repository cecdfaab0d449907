use Rattle.std.proofs.Common.{ℕ, ◌≡◌, ◌≤◌, true, List, Option, inl, inr, lit<, arith, sym, ap, ap₂, subst, ◌∙◌}
use Rattle.std.specs.Prelude.{IfSome}
use Rattle.node_grid.specs.NodeSet.{has_id}
use Rattle.node_grid.specs.NumberFacts.{kinds-few}
use Rattle.node_grid.specs.SetFacts.{member-lt}
use Rattle.omh_paths.specs.declared.wrapped.Wrapped.TheVariants.{Plain}
use Rattle.omh.specs.Heard.{Hearing}
use Rattle.error_detect.specs.Watching.{Watch, findings}
use Rattle.error_reports.specs.Notes.{Notes}
use Rattle.agreed_state.specs.Agreed.{AgreedView, IsAgreed}
use Rattle.node_steps.specs.Parts.{NodeView}
use Rattle.node_steps.specs.Sound.{IsSound}
use Rattle.node_steps.specs.Steps.{started, after_sync, shut}
use Rattle.node_core.specs.Inside.{seen}
use Rattle.node_core.proofs.HeardStates.{heard_watch, states_sized, good_are, none_seen, sync_slot, own_seen, states_kept}
use Rattle.node_core.proofs.controller.Controller.hear_states.Goals as goal

pub close-found-requires : goal.close-found-requires
close-found-requires g c =
    let is = c.self.view_is in
    let open' = (c.requires.sound.in_slot c.requires.open).watching in
    (lit< tt, (elim c.self.invariant.place.capacity [ inl e ↦ rw e (lit< tt) | inr e ↦ rw e (lit< tt) ], ap (λ (v : NodeView g.row.N). v.arrived.is_open) is ∙ open'))

pub good_senders-self-inside-requires : goal.good_senders-self-inside-requires
good_senders-self-inside-requires g c = (elim c.self.invariant.place.capacity [ inl e ↦ rw e (lit< tt) | inr e ↦ rw e (lit< tt) ], (lit< tt, c.self.invariant.place.few))

pub state_of_period-self-inside-requires : goal.state_of_period-self-inside-requires
state_of_period-self-inside-requires g c =
    let n = c.self.inside in
    let inv = c.self.invariant in
    let is = c.self.view_is in
    let sound : IsSound (seen n) = subst (IsSound {N = g.row.N}) (sym is) c.requires.sound in
    let open' : n.phase.is_open ≡ true = ap (λ (v : NodeView g.row.N). v.phase.is_open) is ∙ c.requires.open in
    let first : (seen n).phase.slot ≡ 0 = ap (λ (v : NodeView g.row.N). v.phase.slot) is ∙ c.requires.slot in
    let u : Watch = c.close-found.new.self in
    let shut' = c.close-found.ensures.closed in
    (elim inv.place.capacity [ inl e ↦ rw e (lit< tt) | inr e ↦ rw e (lit< tt) ], (lit< tt, (elim inv.place.capacity [ inl e ↦ rw e (lit< tt) | inr e ↦ rw e (lit< tt) ], (elim inv.place.capacity [ inl e ↦ rw e (lit< tt) | inr e ↦ rw e (lit< tt) ], (inv.place.config_is, (sound.sizes.kept.state, (heard_watch n inv sound open' first u shut', states_sized n inv sound open' first u shut')))))))

pub invariant_of-self : goal.invariant_of-self
invariant_of-self g c =
    let n = c.self.inside in
    let inv = c.self.invariant in
    let is = c.self.view_is in
    let sound : IsSound (seen n) = subst (IsSound {N = g.row.N}) (sym is) c.requires.sound in
    let open' : n.phase.is_open ≡ true = ap (λ (v : NodeView g.row.N). v.phase.is_open) is ∙ c.requires.open in
    let first : (seen n).phase.slot ≡ 0 = ap (λ (v : NodeView g.row.N). v.phase.slot) is ∙ c.requires.slot in
    let u : Watch = c.close-found.new.self in
    let shut' = c.close-found.ensures.closed in
    states_kept n inv sound open' first u shut' c.state_of_period-self-inside.result n.found.notes n.done c.good_senders-self-inside.result inv.notes

pub returns-in_default : goal.returns-in_default
returns-in_default g c =
    let n = c.self.inside in
    let inv = c.self.invariant in
    let is = c.self.view_is in
    let sound : IsSound (seen n) = subst (IsSound {N = g.row.N}) (sym is) c.requires.sound in
    let open' : n.phase.is_open ≡ true = ap (λ (v : NodeView g.row.N). v.phase.is_open) is ∙ c.requires.open in
    let first : (seen n).phase.slot ≡ 0 = ap (λ (v : NodeView g.row.N). v.phase.slot) is ∙ c.requires.slot in
    let u : Watch = c.close-found.new.self in
    let shut' = c.close-found.ensures.closed in
    ap (λ (o : Option AgreedView). record (seen n) { phase = record (seen n).phase { before = o }; found = record (seen n).found { sync = c.good_senders-self-inside.result }; arrived = u }) c.in_default.is
    ∙ none_seen n inv sound open' first u shut' c.good_senders-self-inside.result (c.good_senders-self-inside.ensures ∙ good_are n inv sound open' first u shut' c.close-found.result c.close-found.ensures.found)
    (sym c.state_of_period-self-inside.ensures.state ∙ c.in_default.is)
    ∙ ap (λ (v : NodeView g.row.N). after_sync (shut v)) is

pub body-body-requires : goal.body-body-requires
body-body-requires g c =
    let n = c.self.inside in
    let inv = c.self.invariant in
    (elim inv.place.capacity [ inl e ↦ rw e (lit< tt) | inr e ↦ rw e (lit< tt) ], (elim inv.place.capacity [ inl e ↦ rw e (lit< tt) | inr e ↦ rw e (lit< tt) ], (inv.place.config_is, subst (λ (o : Option AgreedView). IfSome o (λ a. IsAgreed g.row.N n.config.now a)) c.in-Some.is c.state_of_period-self-inside.ensures.agreed)))

pub note_states-requires : goal.note_states-requires
note_states-requires g c =
    let n = c.self.inside in
    let inv = c.self.invariant in
    let is = c.self.view_is in
    let sound : IsSound (seen n) = subst (IsSound {N = g.row.N}) (sym is) c.requires.sound in
    let open' : n.phase.is_open ≡ true = ap (λ (v : NodeView g.row.N). v.phase.is_open) is ∙ c.requires.open in
    let first : (seen n).phase.slot ≡ 0 = ap (λ (v : NodeView g.row.N). v.phase.slot) is ∙ c.requires.slot in
    let u : Watch = c.close-found.new.self in
    let shut' = c.close-found.ensures.closed in
    (elim inv.place.capacity [ inl e ↦ rw e (lit< tt) | inr e ↦ rw e (lit< tt) ], (lit< tt, (elim inv.place.capacity [ inl e ↦ rw e (lit< tt) | inr e ↦ rw e (lit< tt) ], (subst (λ (k : ℕ). k ≤ 16) (sym inv.notes.kinds) (kinds-few n.config.now.version), (sync_slot n inv sound open' first u shut', c.close-found.ensures.found ∙ ap (findings g.row.N) (sym shut'))))))

pub own_claim-claim-requires : goal.own_claim-claim-requires
own_claim-claim-requires g c =
    let inv = c.self.invariant in
    (elim inv.place.capacity [ inl e ↦ rw e (lit< tt) | inr e ↦ rw e (lit< tt) ], (let a = inv.place.me_low in let b = inv.place.few in omega (arith, a, b)))

pub start-requires : goal.start-requires
start-requires g c =
    let n = c.self.inside in
    let inv = c.self.invariant in
    let a : AgreedView = c.in-Some.agreed in
    let sound : IsSound (seen n) = subst (IsSound {N = g.row.N}) (sym c.self.view_is) c.requires.sound in
    let nodes : n.done.nodes ≡ n.config.now.nodes = sound.sizes.done.nodes_are in
    let members : c.agreed.inside.members ≡ a.standing.members = ap (λ (x : AgreedView). x.standing.members) c.agreed.view_is in
    let agreed : IsAgreed g.row.N n.config.now a = subst (λ (o : Option AgreedView). IfSome o (λ x. IsAgreed g.row.N n.config.now x)) c.in-Some.is c.state_of_period-self-inside.ensures.agreed in (
      lit< tt,
      (
        lit< tt,
        (
          λ q on. (let low = member-lt n.config.now.nodes a.standing.members q agreed.standing.set (ap (λ (ms : List ℕ). has_id ms q) (sym members) ∙ on) in omega (arith, low, nodes)),
          let low = inv.place.me_low in omega (arith, low, nodes),
        ),
      ),
    )

pub invariant_of-self-2 : goal.invariant_of-self-2
invariant_of-self-2 g c =
    let n = c.self.inside in
    let inv = c.self.invariant in
    let is = c.self.view_is in
    let sound : IsSound (seen n) = subst (IsSound {N = g.row.N}) (sym is) c.requires.sound in
    let open' : n.phase.is_open ≡ true = ap (λ (v : NodeView g.row.N). v.phase.is_open) is ∙ c.requires.open in
    let first : (seen n).phase.slot ≡ 0 = ap (λ (v : NodeView g.row.N). v.phase.slot) is ∙ c.requires.slot in
    let u : Watch = c.close-found.new.self in
    let shut' = c.close-found.ensures.closed in
    let k = c.note_states.ensures in
    states_kept n inv sound open' first u shut' c.state_of_period-self-inside.result c.note_states.new.notes c.start.new.self c.good_senders-self-inside.result
    (record { nodes = ap (λ (x : Notes). x.nodes) k ∙ inv.notes.nodes; me_is = ap (λ (x : Notes). x.me) k ∙ inv.notes.me_is; kinds = ap (λ (x : Notes). x.kinds) k ∙ inv.notes.kinds })

pub returns : goal.returns
returns g c =
    let n = c.self.inside in
    let inv = c.self.invariant in
    let is = c.self.view_is in
    let sound : IsSound (seen n) = subst (IsSound {N = g.row.N}) (sym is) c.requires.sound in
    let open' : n.phase.is_open ≡ true = ap (λ (v : NodeView g.row.N). v.phase.is_open) is ∙ c.requires.open in
    let first : (seen n).phase.slot ≡ 0 = ap (λ (v : NodeView g.row.N). v.phase.slot) is ∙ c.requires.slot in
    let u : Watch = c.close-found.new.self in
    let shut' = c.close-found.ensures.closed in
    let goes = sym c.state_of_period-self-inside.ensures.state ∙ c.in-Some.is in
    let a : AgreedView = c.in-Some.agreed in
    let x : Notes = c.note_states.new.notes in
    let d : Hearing ℕ = c.start.new.self in
    let started' = c.start.ensures
    ∙ ap₂ (λ (ms : List ℕ) (claim : ℕ). started n.done ms n.phase.me n.phase.full (Plain claim)) (ap (λ (y : AgreedView). y.standing.members) c.agreed.view_is) c.own_claim-claim.ensures in
    ap (λ (o : Option AgreedView). record (seen n) { phase = record (seen n).phase { before = o }; found = record (seen n).found { sync = c.good_senders-self-inside.result; notes = x.row; late = x.carried }; done = d; arrived = u }) c.in-Some.is
    ∙ own_seen n inv sound open' first u shut' a goes c.good_senders-self-inside.result c.as_slice.result.now x d (c.good_senders-self-inside.ensures ∙ good_are n inv sound open' first u shut' c.close-found.result c.close-found.ensures.found)
    (c.as_slice.ensures.value ∙ c.body-body.ensures.bytes) c.note_states.ensures started'
    ∙ ap (λ (v : NodeView g.row.N). after_sync (shut v)) is
