use Rattle.std.proofs.Common.{◌≡◌, ◌<◌, ◌≤◌, ◌+◌, ℕ, List, Option, true, arith, refl, inl, inr, lit<, sym, ap, ap₂, subst, ◌∙◌}
use mathlib.Core.List.{not-mem-nil}
use Rattle.omh.specs.Heard.{Hearing}
use Rattle.error_detect.specs.declared.finding.Finding.{Finding}
use Rattle.error_detect.specs.Watching.{Watch}
use Rattle.error_reports.specs.Notes.{Notes, also_carried}
use Rattle.agreed_state.specs.Agreed.{AgreedView}
use Rattle.relay_table.specs.Tabled.{kept_nodes}
use Rattle.noting.specs.Findings.{found_bad}
use Rattle.relay_table.specs.Facts.{kept_early}
use Rattle.node_steps.specs.Parts.{NodeView}
use Rattle.node_steps.specs.Sound.{IsSound}
use Rattle.node_steps.specs.Steps.{shut, taken}
use Rattle.node_core.specs.Inside.{seen}
use Rattle.node_core.proofs.Behind.{some_of, none_of}
use Rattle.node_core.proofs.Standing.{watch_shut}
use Rattle.node_core.proofs.HeardSlots.{rows_closed, rows_noted, rows_heard, rows_taken}
use Rattle.node_core.proofs.controller.Controller.hear_rows.Goals as goal

pub close-found-requires : goal.close-found-requires
close-found-requires g c =
    let is = c.self.view_is in
    let open' = (c.requires.sound.in_slot c.requires.open).watching in
    (lit< tt, (elim c.self.invariant.place.capacity [ inl e ↦ rw e (lit< tt) | inr e ↦ rw e (lit< tt) ], ap (λ (v : NodeView g.row.N). v.arrived.is_open) is ∙ open'))

pub is_none-requires : goal.is_none-requires
is_none-requires g c = λ κs a m. absurd (not-mem-nil m)

pub invariant_of-self : goal.invariant_of-self
invariant_of-self g c =
    let n = c.self.inside in
    let inv = c.self.invariant in
    let u = c.close-found.new.self in
    let shut' = c.close-found.ensures.closed in
    record {
      place = inv.place;
      slot = inv.slot;
      watch = watch_shut n.config.now n.phase.me n.watch inv.watch u shut';
      kept_notes = inv.kept_notes;
      notes = inv.notes;
    }

pub returns-then-is_none : goal.returns-then-is_none
returns-then-is_none g c =
    let n = c.self.inside in
    let before = none_of n.phase.before c.is_none.result c.is_none.ensures c.if-is_none.true in
    ap (λ (w : Watch). record (seen n) { arrived = w }) c.close-found.ensures.closed
    ∙ ap (λ (o : Option AgreedView). taken (shut (seen n)) o) (sym before)
    ∙ ap (λ (v : NodeView g.row.N). taken (shut v) v.phase.before) c.self.view_is

pub carry_found-requires : goal.carry_found-requires
carry_found-requires g c = (elim c.self.invariant.place.capacity [ inl e ↦ rw e (lit< tt) | inr e ↦ rw e (lit< tt) ], elim c.self.invariant.place.capacity [ inl e ↦ rw e (lit< tt) | inr e ↦ rw e (lit< tt) ])

pub hear_round-requires-room-V-Item : goal.hear_round-requires-room-V-Item
hear_round-requires-room-V-Item g c = λ κs. elim c.self.invariant.place.capacity [ inl e ↦ rw e (lit< tt) | inr e ↦ rw e (lit< tt) ]

pub hear_round-requires-room-V-RelayedItem : goal.hear_round-requires-room-V-RelayedItem
hear_round-requires-room-V-RelayedItem g c = λ κs. elim c.self.invariant.place.capacity [ inl e ↦ rw e (lit< tt) | inr e ↦ rw e (lit< tt) ]

pub hear_round-requires-room-V-Eq : goal.hear_round-requires-room-V-Eq
hear_round-requires-room-V-Eq g c = λ κs. elim c.self.invariant.place.capacity [ inl e ↦ rw e (lit< tt) | inr e ↦ rw e (lit< tt) ]

pub hear_round-requires-room-V-PartialEq : goal.hear_round-requires-room-V-PartialEq
hear_round-requires-room-V-PartialEq g c = λ κs. elim c.self.invariant.place.capacity [ inl e ↦ rw e (lit< tt) | inr e ↦ rw e (lit< tt) ]

pub hear_round-requires : goal.hear_round-requires
hear_round-requires g c =
    let n = c.self.inside in
    let inv = c.self.invariant in
    let is = c.self.view_is in
    let r : ℕ = c.args.round in
    let some = some_of n.phase.before c.is_none.result c.is_none.ensures c.if-is_none.false in
    let a : AgreedView = some.0 in
    let sound : IsSound (seen n) = subst (IsSound {N = g.row.N}) (sym is) c.requires.sound in
    let open' : n.phase.is_open ≡ true = ap (λ (v : NodeView g.row.N). v.phase.is_open) is ∙ c.requires.open in
    let early : r < n.config.now.m = subst (λ (v : NodeView g.row.N). r < v.config.m) (sym is) c.requires.round in
    let low : r ≤ n.config.now.m = omega (arith, early) in
    let number : (seen n).phase.slot ≡ n.config.now.m + 3 + r = subst (λ (v : NodeView g.row.N). v.phase.slot ≡ v.config.m + 3 + r) (sym is) c.requires.slot in
    let closed = rows_closed n inv sound open' c.close-found.new.self c.close-found.ensures.closed a some.1 r low number in
    let kept : r < kept_nodes n.rows.rounds = kept_early n.rows.rounds r (let rounds = sound.sizes.rows.rounds_are in omega (arith, rounds, early)) in
    (elim inv.place.capacity [ inl e ↦ rw e (lit< tt) | inr e ↦ rw e (lit< tt) ], (lit< tt, (kept, closed)))

pub invariant_of-self-2 : goal.invariant_of-self-2
invariant_of-self-2 g c =
    let n = c.self.inside in
    let inv = c.self.invariant in
    let u = c.close-found.new.self in
    let shut' = c.close-found.ensures.closed in
    let k = c.carry_found.ensures in
    record {
      place = inv.place;
      slot = inv.slot;
      watch = watch_shut n.config.now n.phase.me n.watch inv.watch u shut';
      kept_notes = inv.kept_notes;
      notes = record { nodes = ap (λ (x : Notes). x.nodes) k ∙ inv.notes.nodes; me_is = ap (λ (x : Notes). x.me) k ∙ inv.notes.me_is; kinds = ap (λ (x : Notes). x.kinds) k ∙ inv.notes.kinds };
    }

pub returns : goal.returns
returns g c =
    let n = c.self.inside in
    let inv = c.self.invariant in
    let is = c.self.view_is in
    let r : ℕ = c.args.round in
    let some = some_of n.phase.before c.is_none.result c.is_none.ensures c.if-is_none.false in
    let a : AgreedView = some.0 in
    let sound : IsSound (seen n) = subst (IsSound {N = g.row.N}) (sym is) c.requires.sound in
    let open' : n.phase.is_open ≡ true = ap (λ (v : NodeView g.row.N). v.phase.is_open) is ∙ c.requires.open in
    let early : r < n.config.now.m = subst (λ (v : NodeView g.row.N). r < v.config.m) (sym is) c.requires.round in
    let low : r ≤ n.config.now.m = omega (arith, early) in
    let number : (seen n).phase.slot ≡ n.config.now.m + 3 + r = subst (λ (v : NodeView g.row.N). v.phase.slot ≡ v.config.m + 3 + r) (sym is) c.requires.slot in
    let noted = c.carry_found.ensures ∙ ap (λ (fs : List Finding). also_carried g.row.N n.found.notes (found_bad fs)) c.close-found.ensures.found in
    let closing : Watch = c.close-found.new.self in
    let shut' = c.close-found.ensures.closed in
    ap₂ (λ (v : NodeView g.row.N) (h : Hearing (List ℕ)). record v { rows = h }) (rows_noted n inv sound open' closing shut' a some.1 r low number c.carry_found.new.notes noted)
    (c.hear_round.ensures ∙ rows_heard n inv sound open' closing shut' a some.1 r low number r refl)
    ∙ sym (rows_taken (seen n) a r number) ∙ ap (λ (o : Option AgreedView). taken (shut (seen n)) o) (sym some.1)
    ∙ ap (λ (v : NodeView g.row.N). taken (shut v) v.phase.before) is

pub hear_round-requires-room-V-Exact : goal.hear_round-requires-room-V-Exact
hear_round-requires-room-V-Exact g c = λ κs. elim g.bound-1.eight_or_sixteen [ inl e ↦ rw e (lit< tt) | inr e ↦ rw e (lit< tt) ]
