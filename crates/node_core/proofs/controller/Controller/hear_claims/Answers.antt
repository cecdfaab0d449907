use Rattle.std.proofs.Common.{◌≡◌, ◌≢◌, ◌<◌, ◌≤◌, ◌+◌, ℕ, List, Option, true, inl, inr, lit<, arith, refl, sym, ap, ap₂, subst, ◌∙◌}
use Rattle.std.specs.Prelude.{IfSome}
use mathlib.Core.List.{not-mem-nil}
use Rattle.omh.specs.Heard.{Hearing}
use Rattle.frames.specs.FrameKinds.{claim_relay_kind}
use Rattle.error_detect.specs.declared.finding.Finding.{Finding}
use Rattle.error_detect.specs.Watching.{Watch}
use Rattle.error_reports.specs.Notes.{Notes, also_noted}
use Rattle.agreed_state.specs.Agreed.{AgreedView}
use Rattle.protocol.specs.Arrival.{claim_form}
use Rattle.relay_table.specs.Tabled.{kept_nodes}
use Rattle.relay_table.specs.Facts.{kept_early}
use Rattle.relaying.specs.Hearing.{after_round}
use Rattle.relaying.specs.Told.{IsRoundHeard}
use Rattle.noting.specs.Findings.{found_bad}
use Rattle.node_steps.specs.Parts.{NodeView}
use Rattle.node_steps.specs.PremiseLaws.{done_hears}
use Rattle.node_steps.specs.Sound.{IsSound, Hears}
use Rattle.node_steps.specs.Steps.{shut, taken, claims_known}
use Rattle.node_core.specs.Inside.{seen}
use Rattle.node_core.proofs.Behind.{some_of, none_of}
use Rattle.node_core.proofs.Standing.{watch_shut}
use Rattle.node_core.proofs.HeardSlots.{claims_closed, claims_noted, claims_heard, claims_taken, last_claims, other_claims}
use Rattle.node_core.proofs.controller.Controller.hear_claims.Goals as goal

pub close-found-requires : goal.close-found-requires
close-found-requires g c =
    let is = c.self.view_is in
    let open' = (c.requires.sound.in_slot c.requires.open).watching in
    (lit< tt, (elim c.self.invariant.place.capacity [ inl e ↦ rw e (lit< tt) | inr e ↦ rw e (lit< tt) ], ap (λ (v : NodeView g.row.N). v.arrived.is_open) is ∙ open'))

pub is_none-requires : goal.is_none-requires
is_none-requires g c = λ κs a m. absurd (not-mem-nil m)

pub invariant_of-self : goal.invariant_of-self
invariant_of-self g c =
    let n = c.self.inside in
    let inv = c.self.invariant in
    let u = c.close-found.new.self in
    let shut' = c.close-found.ensures.closed in
    record {
      place = inv.place;
      slot = inv.slot;
      watch = watch_shut n.config.now n.phase.me n.watch inv.watch u shut';
      kept_notes = inv.kept_notes;
      notes = inv.notes;
    }

pub returns-then-is_none : goal.returns-then-is_none
returns-then-is_none g c =
    let n = c.self.inside in
    let before = none_of n.phase.before c.is_none.result c.is_none.ensures c.if-is_none.true in
    ap (λ (w : Watch). record (seen n) { arrived = w }) c.close-found.ensures.closed
    ∙ ap (λ (o : Option AgreedView). taken (shut (seen n)) o) (sym before)
    ∙ ap (λ (v : NodeView g.row.N). taken (shut v) v.phase.before) c.self.view_is

pub note_found-requires : goal.note_found-requires
note_found-requires g c = (elim c.self.invariant.place.capacity [ inl e ↦ rw e (lit< tt) | inr e ↦ rw e (lit< tt) ], elim c.self.invariant.place.capacity [ inl e ↦ rw e (lit< tt) | inr e ↦ rw e (lit< tt) ])

pub hear_round-requires : goal.hear_round-requires
hear_round-requires g c =
    let n = c.self.inside in
    let inv = c.self.invariant in
    let is = c.self.view_is in
    let r : ℕ = c.args.round in
    let some = some_of n.phase.before c.is_none.result c.is_none.ensures c.if-is_none.false in
    let a : AgreedView = some.0 in
    let sound : IsSound (seen n) = subst (IsSound {N = g.row.N}) (sym is) c.requires.sound in
    let open' : n.phase.is_open ≡ true = ap (λ (v : NodeView g.row.N). v.phase.is_open) is ∙ c.requires.open in
    let low : r ≤ n.config.now.m = subst (λ (v : NodeView g.row.N). r ≤ v.config.m) (sym is) c.requires.round in
    let number : (seen n).phase.slot ≡ 1 + r = subst (λ (v : NodeView g.row.N). v.phase.slot ≡ 1 + r) (sym is) c.requires.slot in
    let u = c.close-found.new.self in
    let shut' = c.close-found.ensures.closed in
    let early = c.if-round-self.true in
    let kept : r < kept_nodes n.done.rounds = kept_early n.done.rounds r (let rounds = sound.sizes.done.rounds_are in omega (arith, rounds, early)) in
    (lit< tt, (lit< tt, (kept, claims_closed n inv sound open' u shut' a some.1 r low number)))

pub invariant_of-self-then-round-self : goal.invariant_of-self-then-round-self
invariant_of-self-then-round-self g c =
    let n = c.self.inside in
    let inv = c.self.invariant in
    let k = c.note_found.ensures in
    record {
      place = inv.place;
      slot = inv.slot;
      watch = watch_shut n.config.now n.phase.me n.watch inv.watch c.close-found.new.self c.close-found.ensures.closed;
      kept_notes = inv.kept_notes;
      notes = record { nodes = ap (λ (x : Notes). x.nodes) k ∙ inv.notes.nodes; me_is = ap (λ (x : Notes). x.me) k ∙ inv.notes.me_is; kinds = ap (λ (x : Notes). x.kinds) k ∙ inv.notes.kinds };
    }

pub returns-then-round-self : goal.returns-then-round-self
returns-then-round-self g c =
    let n = c.self.inside in
    let inv = c.self.invariant in
    let is = c.self.view_is in
    let r : ℕ = c.args.round in
    let some = some_of n.phase.before c.is_none.result c.is_none.ensures c.if-is_none.false in
    let a : AgreedView = some.0 in
    let sound : IsSound (seen n) = subst (IsSound {N = g.row.N}) (sym is) c.requires.sound in
    let open' : n.phase.is_open ≡ true = ap (λ (v : NodeView g.row.N). v.phase.is_open) is ∙ c.requires.open in
    let low : r ≤ n.config.now.m = subst (λ (v : NodeView g.row.N). r ≤ v.config.m) (sym is) c.requires.round in
    let number : (seen n).phase.slot ≡ 1 + r = subst (λ (v : NodeView g.row.N). v.phase.slot ≡ 1 + r) (sym is) c.requires.slot in
    let u = c.close-found.new.self in
    let shut' = c.close-found.ensures.closed in
    let noted = claims_noted n inv sound open' u shut' a some.1 r low number c.note_found.new.notes (c.note_found.ensures ∙ ap (λ (fs : List Finding). also_noted g.row.N n.found.notes (found_bad fs)) c.close-found.ensures.found) in
    let early = c.if-round-self.true in
    let other : (seen n).phase.slot ≢ n.config.now.m + 1 = λ e. absurd (omega (arith, number, early, e)) in
    ap₂ (λ (v : NodeView g.row.N) (h : Hearing ℕ). record v { done = h }) noted (c.hear_round.ensures ∙ claims_heard n inv sound open' u shut' a some.1 r low number r refl)
    ∙ sym (other_claims (seen n) a other) ∙ sym (claims_taken (seen n) a r number low) ∙ ap (λ (o : Option AgreedView). taken (shut (seen n)) o) (sym some.1)
    ∙ ap (λ (v : NodeView g.row.N). taken (shut v) v.phase.before) is

pub invariant_of-self-else-round-self : goal.invariant_of-self-else-round-self
invariant_of-self-else-round-self g c =
    let n = c.self.inside in
    let inv = c.self.invariant in
    let k = c.note_found.ensures in
    record {
      place = inv.place;
      slot = inv.slot;
      watch = watch_shut n.config.now n.phase.me n.watch inv.watch c.close-found.new.self c.close-found.ensures.closed;
      kept_notes = inv.kept_notes;
      notes = record { nodes = ap (λ (x : Notes). x.nodes) k ∙ inv.notes.nodes; me_is = ap (λ (x : Notes). x.me) k ∙ inv.notes.me_is; kinds = ap (λ (x : Notes). x.kinds) k ∙ inv.notes.kinds };
    }

pub know_claims-requires : goal.know_claims-requires
know_claims-requires g c =
    let n = c.self.inside in
    let inv = c.self.invariant in
    let is = c.self.view_is in
    let r : ℕ = c.args.round in
    let some = some_of n.phase.before c.is_none.result c.is_none.ensures c.if-is_none.false in
    let a : AgreedView = some.0 in
    let sound : IsSound (seen n) = subst (IsSound {N = g.row.N}) (sym is) c.requires.sound in
    let open' : n.phase.is_open ≡ true = ap (λ (v : NodeView g.row.N). v.phase.is_open) is ∙ c.requires.open in
    let low : r ≤ n.config.now.m = subst (λ (v : NodeView g.row.N). r ≤ v.config.m) (sym is) c.requires.round in
    let number : (seen n).phase.slot ≡ 1 + r = subst (λ (v : NodeView g.row.N). v.phase.slot ≡ 1 + r) (sym is) c.requires.slot in
    let u = c.close-found.new.self in
    let shut' = c.close-found.ensures.closed in
    let late = c.if-round-self.false in
    let hears : Hears n.done n.phase.me a = done_hears (seen n) a (sound.in_slot open') (omega (arith, number)) some.1 in
    let rounds : n.done.rounds ≡ r = (let rounds = sound.sizes.done.rounds_are in omega (arith, rounds, late, low)) in
    let closed = subst (λ (k : ℕ). IsRoundHeard g.row.N claim_relay_kind k n.done u) (sym rounds) (claims_closed n inv sound open' u shut' a some.1 r low number) in
    (elim inv.place.capacity [ inl e ↦ rw e (lit< tt) | inr e ↦ rw e (lit< tt) ], (sound.sizes.before, (subst (λ (o : Option AgreedView). IfSome o (λ b. Hears n.done n.phase.me b)) (sym some.1) hears, closed)))

pub returns-else-round-self : goal.returns-else-round-self
returns-else-round-self g c =
    let n = c.self.inside in
    let inv = c.self.invariant in
    let is = c.self.view_is in
    let r : ℕ = c.args.round in
    let some = some_of n.phase.before c.is_none.result c.is_none.ensures c.if-is_none.false in
    let a : AgreedView = some.0 in
    let sound : IsSound (seen n) = subst (IsSound {N = g.row.N}) (sym is) c.requires.sound in
    let open' : n.phase.is_open ≡ true = ap (λ (v : NodeView g.row.N). v.phase.is_open) is ∙ c.requires.open in
    let low : r ≤ n.config.now.m = subst (λ (v : NodeView g.row.N). r ≤ v.config.m) (sym is) c.requires.round in
    let number : (seen n).phase.slot ≡ 1 + r = subst (λ (v : NodeView g.row.N). v.phase.slot ≡ 1 + r) (sym is) c.requires.slot in
    let u = c.close-found.new.self in
    let shut' = c.close-found.ensures.closed in
    let noted = claims_noted n inv sound open' u shut' a some.1 r low number c.note_found.new.notes (c.note_found.ensures ∙ ap (λ (fs : List Finding). also_noted g.row.N n.found.notes (found_bad fs)) c.close-found.ensures.found) in
    let late = c.if-round-self.false in
    let rounds : n.done.rounds ≡ r = (let rounds = sound.sizes.done.rounds_are in omega (arith, rounds, late, low)) in
    let old : NodeView g.row.N = record (seen n) { found = record (seen n).found { notes = c.note_found.new.notes.row; late = c.note_found.new.notes.carried }; arrived = u } in
    let known = subst (λ (o : Option AgreedView). IfSome o (λ b. c.know_claims.new.self ≡ claims_known old (after_round claim_form n.done.nodes u n.done.rounds n.done) b)) some.1 c.know_claims.ensures in
    known ∙ ap₂ (λ (v : NodeView g.row.N) (h : Hearing ℕ). claims_known v h a) noted (claims_heard n inv sound open' u shut' a some.1 r low number n.done.rounds rounds)
    ∙ sym (last_claims (seen n) a (omega (arith, number, late, low))) ∙ sym (claims_taken (seen n) a r number low) ∙ ap (λ (o : Option AgreedView). taken (shut (seen n)) o) (sym some.1)
    ∙ ap (λ (v : NodeView g.row.N). taken (shut v) v.phase.before) is
