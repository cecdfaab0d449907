use Rattle.std.proofs.Common.{◌≡◌, ◌+◌, ◌*◌, ℕ, List, Option, true, arith, inl, inr, lit<, sym, ap, ap₂, subst, ◌∙◌}
use Rattle.std.specs.Prelude.{IfSome}
use Rattle.omh.specs.Heard.{Hearing}
use Rattle.frames.specs.FrameKinds.{row_relay_kind}
use Rattle.error_detect.specs.declared.finding.Finding.{Finding}
use Rattle.error_detect.specs.Watching.{Watch}
use Rattle.error_reports.specs.Notes.{Notes, also_carried}
use Rattle.agreed_state.specs.Agreed.{AgreedView}
use Rattle.protocol.specs.Arrival.{row_form}
use Rattle.relaying.specs.Hearing.{after_round}
use Rattle.relaying.specs.Told.{IsRoundHeard}
use Rattle.noting.specs.Findings.{found_bad}
use Rattle.node_steps.specs.Parts.{NodeView}
use Rattle.node_steps.specs.Sound.{IsSound}
use Rattle.node_steps.specs.Steps.{after_slot, ended, ended_cold, period_over}
use Rattle.node_core.specs.Inside.{seen}
use Rattle.node_core.proofs.Ended.{is_over, over_is, by_some, by_none, cold_end, state_end}
use Rattle.node_core.proofs.HeardSlots.{rows_closed, rows_noted, rows_heard}
use Rattle.node_core.proofs.Standing.{watch_shut}
use Rattle.node_core.proofs.controller.Controller.end_period.Goals as goal
use Rattle.node_core.proofs.controller.Controller.end_period.Goals.{then-is_some, else-is_some}

pub close-found-requires : goal.close-found-requires
close-found-requires g c =
    let open' = (c.requires.sound.in_slot c.requires.open).watching in
    (lit< tt, (elim g.bound-1.eight_or_sixteen [ inl e ↦ rw e (lit< tt) | inr e ↦ rw e (lit< tt) ], ap (λ (v : NodeView g.row.N). v.arrived.is_open) c.self.view_is ∙ open'))

pub carry_found-requires : goal.carry_found-requires
carry_found-requires g c = (elim g.bound-1.eight_or_sixteen [ inl e ↦ rw e (lit< tt) | inr e ↦ rw e (lit< tt) ], elim g.bound-1.eight_or_sixteen [ inl e ↦ rw e (lit< tt) | inr e ↦ rw e (lit< tt) ])

pub invariant_of-self : goal.invariant_of-self
invariant_of-self g c =
    let n = c.self.inside in
    let inv = c.self.invariant in
    let k = c.carry_found.ensures in
    record {
      place = inv.place;
      slot = inv.slot;
      watch = watch_shut n.config.now n.phase.me n.watch inv.watch c.close-found.new.self c.close-found.ensures.closed;
      kept_notes = inv.kept_notes;
      notes = record { nodes = ap (λ (x : Notes). x.nodes) k ∙ inv.notes.nodes; me_is = ap (λ (x : Notes). x.me) k ∙ inv.notes.me_is; kinds = ap (λ (x : Notes). x.kinds) k ∙ inv.notes.kinds };
    }

pub end_with_state-requires : goal.end_with_state-requires
end_with_state-requires g c =
    let n = c.self.inside in
    let inv = c.self.invariant in
    let is = c.self.view_is in
    let u = c.close-found.new.self in
    let shut' = c.close-found.ensures.closed in
    let some = by_some n.phase.before c.is_some.result c.is_some.ensures c.if-is_some.true in
    let sound : IsSound (seen n) = subst (IsSound {N = g.row.N}) (sym is) c.requires.sound in
    let open' : n.phase.is_open ≡ true = ap (λ (v : NodeView g.row.N). v.phase.is_open) is ∙ c.requires.open in
    let last : (seen n).phase.slot ≡ 2 * n.config.now.m + 3 = subst (λ (v : NodeView g.row.N). v.phase.slot ≡ 2 * v.config.m + 3) (sym is) c.requires.last in
    let number : (seen n).phase.slot ≡ n.config.now.m + 3 + n.config.now.m = omega (arith, last) in
    let hears = (sound.in_slot open').rows (omega (arith, last)) in
    let closed = subst (λ (k : ℕ). IsRoundHeard g.row.N row_relay_kind k n.rows u) (sym sound.sizes.rows.rounds_are) (rows_closed n inv sound open' u shut' some.0 some.1 n.config.now.m (omega arith) number) in
    (elim g.bound-1.eight_or_sixteen [ inl e ↦ rw e (lit< tt) | inr e ↦ rw e (lit< tt) ], (sound.sizes.before, (hears, closed)))

pub invariant_of-self-else-is_some : goal.invariant_of-self-else-is_some
invariant_of-self-else-is_some g c =
    let n = c.self.inside in
    let inv = c.self.invariant in
    record {
      place = inv.place;
      slot = inv.slot;
      watch = watch_shut n.config.now n.phase.me n.watch inv.watch c.close-found.new.self c.close-found.ensures.closed;
      kept_notes = inv.kept_notes;
      notes = inv.notes;
    }

pub invariant_of-self-2 : goal.invariant_of-self-2
invariant_of-self-2 g c = is_over c.self-2.inside c.forget.new.self c.forget.ensures c.self-2.invariant

pub returns : goal.returns
returns g c =
    let n = c.self.inside in
    let inv = c.self.invariant in
    let is = c.self.view_is in
    let u = c.close-found.new.self in
    let shut' = c.close-found.ensures.closed in
    let sound : IsSound (seen n) = subst (IsSound {N = g.row.N}) (sym is) c.requires.sound in
    let open' : n.phase.is_open ≡ true = ap (λ (v : NodeView g.row.N). v.phase.is_open) is ∙ c.requires.open in
    let last : (seen n).phase.slot ≡ 2 * n.config.now.m + 3 = subst (λ (v : NodeView g.row.N). v.phase.slot ≡ 2 * v.config.m + 3) (sym is) c.requires.last in
    let number : (seen n).phase.slot ≡ n.config.now.m + 3 + n.config.now.m = omega (arith, last) in
    let over : period_over c.if-is_some.self ≡ after_slot (seen n) = elim c.if-is_some.branch [
      | then-is_some w ↦
          let some = by_some n.phase.before c.is_some.result c.is_some.ensures w.if-is_some.true in
          let a : AgreedView = some.0 in
          let old : NodeView g.row.N = record (seen n) { found = record (seen n).found { notes = w.carry_found.new.notes.row; late = w.carry_found.new.notes.carried }; arrived = u } in
          let noted = rows_noted n inv sound open' u shut' a some.1 n.config.now.m (omega arith) number w.carry_found.new.notes (w.carry_found.ensures ∙ ap (λ (fs : List Finding). also_carried g.row.N n.found.notes (found_bad fs)) c.close-found.ensures.found) in
          let heard = rows_heard n inv sound open' u shut' a some.1 n.config.now.m (omega arith) number n.rows.rounds sound.sizes.rows.rounds_are in
          let ends = subst (λ (o : Option AgreedView). IfSome o (λ b. w.end_with_state.new.self ≡ ended old (after_round row_form n.rows.nodes u n.rows.rounds n.rows) b)) some.1 w.end_with_state.ensures in
          ap (λ (v : NodeView g.row.N). period_over v) (w.self-is ∙ ends ∙ ap₂ (λ (v : NodeView g.row.N) (h : Hearing (List ℕ)). ended v h a) noted heard) ∙ sym (state_end (seen n) last a some.1)
      | else-is_some w ↦
          let none = by_none n.phase.before c.is_some.result c.is_some.ensures w.if-is_some.false in
          ap (λ (v : NodeView g.row.N). period_over v) (w.self-is ∙ w.end_cold.ensures ∙ ap (λ (x : Watch). ended_cold (record (seen n) { arrived = x })) shut') ∙ sym (cold_end (seen n) last none)
    ] in
    over_is c.self-2.inside c.forget.new.self c.forget.ensures ∙ ap (λ (v : NodeView g.row.N). period_over v) c.self-2.view_is ∙ over ∙ ap (λ (v : NodeView g.row.N). after_slot v) is
