use Rattle.std.proofs.Common.{◌≡◌, ℕ, List, sym, subst, ap, ◌∙◌, arith, ◌<◌, ◌≤◌, length, lit<}
use Rattle.std.specs.Prelude.{Option, Some, IfSome, option_map}
use Rattle.std.proofs.lemmas.List.{length-set}
use Rattle.frames.specs.Content.{Expectation}
use Rattle.frames.specs.Seen.{expected}
use Rattle.error_detect.specs.declared.finding.Finding.{Finding}
use Rattle.error_detect.specs.Inside.{IsKept}
use Rattle.error_detect.specs.Watching.{Arrival, Boxes, Held, Watch, watch_of, one, held_at, filled, with_held, delivered, of_sender, found_by, IsFoundOf}
use Rattle.error_detect.proofs.Boxes.{delivered_in, still_found, found_after, never, some_same}
use Rattle.error_detect.proofs.watch.SlotWatch.deliver.Goals as goal

pub take-requires : goal.take-requires
take-requires g c =
    let n = c.self.inside in
    let e : Expectation = expected c.in-Some.expect in
    let r = subst (λ q. IfSome q (λ (y : Expectation). (y.nodes ≡ n.nodes) × (0 < y.nodes) × (y.m ≤ 3))) (ap (option_map expected) c.in-Some.is) c.self.invariant.inboxes.readable in
    let few : e.nodes ≤ g.row.N = omega (arith, r.0, c.self.invariant.inboxes.few) in
    let low : c.args.from < length n.arrivals.held = omega (arith, c.self.invariant.inboxes.each, ap (λ (w : Watch). w.nodes) c.self.view_is, c.requires.node) in
    (lit< tt, (r.1, (few, (r.2, low))))

pub returns : goal.returns
returns g c =
    let n = c.self.inside in
    let o : Option Expectation = option_map expected n.expect in
    let j : ℕ = c.args.from in
    let found : Finding = found_by (of_sender j (expected c.in-Some.expect)) (one c.args.tick c.args.bytes.now) in
    let put : c.take.new.self ≡ filled n.arrivals j c.args.tick c.args.bytes.now found = c.take.ensures in
    let with_arrived : List Arrival → Watch = λ a. record { nodes = n.nodes; me = n.me; frame_max = n.arrivals.frame_max; expect = o; is_open = n.is_open; arrived = a } in
    ap (λ (b : Boxes). watch_of n.nodes n.me o n.is_open b) put
    ∙ ap with_arrived (delivered_in n.arrivals j c.args.tick c.args.bytes.now found)
    ∙ ap (λ w. delivered w j c.args.tick c.args.bytes.now) c.self.view_is

pub invariant_of-self : goal.invariant_of-self
invariant_of-self g c =
    let n = c.self.inside in
    let e : Expectation = expected c.in-Some.expect in
    let o : Option Expectation = option_map expected n.expect in
    let j : ℕ = c.args.from in
    let some : o ≡ Some e = ap (option_map expected) c.in-Some.is in
    let found : Finding = found_by (of_sender j e) (one c.args.tick c.args.bytes.now) in
    let put : c.take.new.self ≡ filled n.arrivals j c.args.tick c.args.bytes.now found = c.take.ensures in
    let now : Held = with_held n.arrivals.frame_max (held_at n.arrivals j) c.args.tick c.args.bytes.now found in
    let is_found : IsFoundOf (of_sender j e) now = found_after (of_sender j e) n.arrivals.frame_max (held_at n.arrivals j) c.args.tick c.args.bytes.now in
    let P : Boxes → Type 0 = λ b. IsKept g.row.N (watch_of n.nodes n.me o n.is_open b) b.held n.good in
    let is : P (filled n.arrivals j c.args.tick c.args.bytes.now found) = record {
      inboxes = record {
        capacity = c.self.invariant.inboxes.capacity;
        few = c.self.invariant.inboxes.few;
        each = length-set n.arrivals.held j now ∙ c.self.invariant.inboxes.each;
        readable = c.self.invariant.inboxes.readable;
      };
      slot = c.self.invariant.slot;
      found = still_found o n.arrivals.held j now c.self.invariant.found (λ y is. subst (λ (z : Expectation). IsFoundOf (of_sender j z) now) (some_same e y (sym some ∙ is)) is_found);
      marked = λ shut. never (sym c.requires.open ∙ ap (λ (w : Watch). w.is_open) (sym c.self.view_is) ∙ shut);
      room = c.self.invariant.room;
    } in
    subst P (sym put) is
