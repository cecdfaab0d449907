use Rattle.std.proofs.Common.{ℕ, List, replicate, length, sym, ap, ◌∙◌, subst}
use Rattle.std.specs.Prelude.{None, false}
use Rattle.std.proofs.lemmas.List.{length-replicate}
use Rattle.error_detect.specs.Inside.{IsKept}
use Rattle.error_detect.specs.Watching.{Arrival, nothing, Boxes, Watch, watch_of, empty_boxes, fresh}
use Rattle.error_detect.proofs.Boxes.{arrivals_fresh, found_fresh, never, no_some}
use Rattle.error_detect.proofs.watch.SlotWatch.forget.Goals as goal

pub invariant_of-self : goal.invariant_of-self
invariant_of-self g c =
    let n = c.self.inside in
    let k : ℕ = length n.arrivals.held in
    let P : Boxes → Type 0 = λ b. IsKept g.row.N (watch_of n.nodes n.me None false b) b.held n.good in
    let is : P (empty_boxes k n.arrivals.frame_max) = record {
      inboxes = record { capacity = c.self.invariant.inboxes.capacity; few = c.self.invariant.inboxes.few; each = length-replicate k _ ∙ c.self.invariant.inboxes.each; readable = tt };
      slot = λ shown. never (sym shown);
      found = found_fresh None k;
      marked = λ shut some. never (sym some);
      room = λ e some. no_some e some;
    } in
    subst P (sym c.forget.ensures) is

pub returns : goal.returns
returns g c =
    let n = c.self.inside in
    let k : ℕ = length n.arrivals.held in
    let with_arrived : List Arrival → Watch =
    λ a. record { nodes = n.nodes; me = n.me; frame_max = n.arrivals.frame_max; expect = None; is_open = false; arrived = a } in
    ap (λ b. watch_of n.nodes n.me None false b) c.forget.ensures
    ∙ ap with_arrived (arrivals_fresh k ∙ ap (λ i. replicate i nothing) c.self.invariant.inboxes.each)
    ∙ ap (λ w. fresh w.nodes w.me w.frame_max) c.self.view_is
