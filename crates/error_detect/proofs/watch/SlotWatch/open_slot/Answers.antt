use Rattle.std.proofs.Common.{ℕ, List, replicate, length, refl, sym, ap, ◌∙◌, subst}
use Rattle.std.specs.Prelude.{Option, Some, true}
use Rattle.std.proofs.lemmas.List.{length-replicate}
use Rattle.frames.specs.Content.{Expectation}
use Rattle.frames.specs.Seen.{expected}
use Rattle.error_detect.specs.Inside.{IsKept}
use Rattle.error_detect.specs.Watching.{Arrival, nothing, Boxes, Watch, watch_of, empty_boxes, opened, HasRoom}
use Rattle.error_detect.proofs.Boxes.{arrivals_fresh, found_fresh, never, some_same}
use Rattle.error_detect.proofs.watch.SlotWatch.open_slot.Goals as goal

pub invariant_of-self : goal.invariant_of-self
invariant_of-self g c =
    let n = c.self.inside in
    let e : Expectation = expected c.args.expect.now in
    let k : ℕ = length n.arrivals.held in
    let fits : HasRoom n.arrivals.frame_max e = subst (λ m. HasRoom m e) (ap (λ (w : Watch). w.frame_max) (sym c.self.view_is)) c.requires.room in
    let P : Boxes → Type 0 = λ b. IsKept g.row.N (watch_of n.nodes n.me (Some e) true b) b.held n.good in
    let is : P (empty_boxes k n.arrivals.frame_max) = record {
      inboxes = record {
        capacity = c.self.invariant.inboxes.capacity;
        few = c.self.invariant.inboxes.few;
        each = length-replicate k _ ∙ c.self.invariant.inboxes.each;
        readable = (c.requires.nodes ∙ ap (λ (w : Watch). w.nodes) (sym c.self.view_is), c.requires.some_nodes, c.requires.rounds);
      };
      slot = λ shown. refl;
      found = found_fresh (Some e) k;
      marked = λ shut. never shut;
      room = λ y some. subst (HasRoom n.arrivals.frame_max) (some_same e y some) fits;
    } in
    subst P (sym c.forget.ensures) is

pub returns : goal.returns
returns g c =
    let n = c.self.inside in
    let e : Option Expectation = Some (expected c.args.expect.now) in
    let k : ℕ = length n.arrivals.held in
    let with_arrived : List Arrival → Watch =
    λ a. record { nodes = n.nodes; me = n.me; frame_max = n.arrivals.frame_max; expect = e; is_open = true; arrived = a } in
    ap (λ b. watch_of n.nodes n.me e true b) c.forget.ensures
    ∙ ap with_arrived (arrivals_fresh k ∙ ap (λ i. replicate i nothing) c.self.invariant.inboxes.each)
    ∙ ap (λ w. opened w (expected c.args.expect.now)) c.self.view_is
