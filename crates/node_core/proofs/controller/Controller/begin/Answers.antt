use Rattle.std.proofs.Common.{◌≡◌, Bool, true, arith, inl, inr, lit<, sym, ap, ap₂, subst, ◌∙◌}
use mathlib.Core.List.{not-mem-nil}
use Rattle.std.specs.Prelude.{replicate}
use Rattle.node_grid.specs.NodeSet.{IsIdSet}
use Rattle.node_grid.specs.CapacityLaws.{capacity-le}
use Rattle.node_grid.specs.SetFacts.{empty_set}
use Rattle.frames.specs.Content.{Expectation}
use Rattle.frames.specs.Seen.{expected}
use Rattle.error_detect.specs.Watching.{Watch, opened, HasRoom}
use Rattle.agreed_state.specs.Expecting.{expectation}
use Rattle.error_reports.specs.Notes.{Notes}
use Rattle.node_steps.specs.Parts.{NodeView, Found}
use Rattle.node_steps.specs.Steps.{begun}
use Rattle.node_core.specs.Inside.{found_of, none_found, AreItsNotes}
use Rattle.node_core.proofs.Rounds.{fits_room}
use Rattle.node_core.proofs.Standing.{watch_open}
use Rattle.node_core.proofs.controller.Controller.begin.Goals as goal

pub empty-requires : goal.empty-requires
empty-requires g c = (lit< tt, capacity-le g.row.N g.bound-1.eight_or_sixteen)

pub expect-expect-requires : goal.expect-expect-requires
expect-expect-requires g c =
    let inv = c.self.invariant in
    (elim g.bound-1.eight_or_sixteen [ inl e ↦ rw e (lit< tt) | inr e ↦ rw e (lit< tt) ], (lit< tt, (lit< tt, inv.place.config_is)))

pub open_slot-requires : goal.open_slot-requires
open_slot-requires g c =
    let inv = c.self.invariant in
    let n = c.self.inside in
    let e = c.expect-expect.ensures in
    let nodes : c.expect-expect.result.nodes ≡ n.config.now.nodes = ap (λ (x : Expectation). x.nodes) e in
    let m : c.expect-expect.result.m ≡ n.config.now.m = ap (λ (x : Expectation). x.m) e in
    let none : IsIdSet n.config.now.nodes c.empty.result = subst (IsIdSet n.config.now.nodes) (sym c.empty.ensures) (empty_set n.config.now.nodes) in
    let room = subst (HasRoom n.watch.frame_max) (sym e) (fits_room n.config.now c.args.period 0 n.phase.me c.empty.result 0 n.watch.frame_max none (omega arith) inv.watch.greatest) in
    let some = inv.place.config_is.some_nodes in
    let few = inv.place.few_rounds in
    (lit< tt, (lit< tt, (nodes ∙ sym inv.watch.nodes, (omega (arith, nodes, some), (omega (arith, m, few), room)))))

pub is_some-requires : goal.is_some-requires
is_some-requires g c κs = λ a m. absurd (not-mem-nil m)

pub next_period-requires : goal.next_period-requires
next_period-requires g c = elim g.bound-1.eight_or_sixteen [ inl e ↦ rw e (lit< tt) | inr e ↦ rw e (lit< tt) ]

pub none-self-inside-requires : goal.none-self-inside-requires
none-self-inside-requires g c = (elim g.bound-1.eight_or_sixteen [ inl e ↦ rw e (lit< tt) | inr e ↦ rw e (lit< tt) ], elim g.bound-1.eight_or_sixteen [ inl e ↦ rw e (lit< tt) | inr e ↦ rw e (lit< tt) ])

pub invariant_of-self : goal.invariant_of-self
invariant_of-self g c =
    let n = c.self.inside in
    let inv = c.self.invariant in
    let notes : c.none-self-inside.result.notes ≡ record n.kept.notes { row = n.kept.notes.carried; carried = replicate g.row.N 0 } = c.none-self-inside.ensures.notes ∙ c.next_period.ensures in
    record {
      place = inv.place;
      slot = tt;
      watch = watch_open n.config.now n.phase.me n.watch inv.watch c.open_slot.new.self (expected c.expect-expect.result) c.open_slot.ensures;
      kept_notes = inv.kept_notes;
      notes = subst (AreItsNotes n.config.now n.phase.me) (sym notes) (record { nodes = inv.kept_notes.nodes; me_is = inv.kept_notes.me_is; kinds = inv.kept_notes.kinds });
    }

pub returns : goal.returns
returns g c =
    let n = c.self.inside in
    let none : Notes = record n.kept.notes { row = n.kept.notes.carried; carried = replicate g.row.N 0 } in
    let found : found_of c.none-self-inside.result ≡ none_found g.row.N none = c.none-self-inside.ensures.found ∙ ap (none_found g.row.N) c.next_period.ensures in
    let mk : Watch → Bool → Found → NodeView g.row.N = λ w b f. record {
      config = n.config.now;
      phase = record { me = n.phase.me; period = c.args.period; slot = 0; is_open = true; inputs = c.args.inputs.now; full = b; before = n.kept.state };
      kept = record { state = n.kept.state; carried = n.kept.notes.carried; votes = n.kept.votes; owns = n.kept.owns };
      done = n.done;
      rows = n.rows;
      found = f;
      arrived = w;
      outcome = n.outcome;
    } in
    ap (λ (w : Watch). mk w c.is_some.result (found_of c.none-self-inside.result)) (c.open_slot.ensures ∙ ap (opened n.watch) c.expect-expect.ensures)
    ∙ ap₂ (λ (b : Bool) (f : Found). mk (opened n.watch (expectation n.config.now c.args.period 0 n.phase.me c.empty.result 0)) b f) c.is_some.ensures found
    ∙ ap (λ (v : NodeView g.row.N). begun v c.args.period c.args.inputs.now) c.self.view_is
