use Rattle.std.proofs.Common.{◌<◌, length, lit<, inl, inr, sym, ap, ◌∙◌, arith}
use Rattle.std.specs.Prelude.{Some, option_map}
use Rattle.frames.specs.Seen.{expected, content}
use Rattle.error_detect.specs.Watching.{Watch, held_at}
use Rattle.error_detect.proofs.Told.{IsHeld, held_as_seen}
use Rattle.error_detect.proofs.watch.SlotWatch.frame.Goals as goal

pub good_frame-requires : goal.good_frame-requires
good_frame-requires g c =
    let n = c.self.inside in
    let h : IsHeld c.args.self.now (expected c.in-Some.expect) c.args.from (held_at n.arrivals c.args.from) =
    held_as_seen g.row.N n.nodes n.me (option_map expected n.expect) n.is_open n.arrivals n.good _ c.args.from c.self.invariant c.self.view_is
    c.requires.closed c.requires.some_slot c.requires.node c.requires.other (sym c.has.ensures ∙ c.if-not-has.false) (expected c.in-Some.expect) (ap (option_map expected) c.in-Some.is) in
    let cap = c.self.invariant.inboxes.capacity in
    let nodes = ap (λ (v : Watch). v.nodes) c.self.view_is in
    let low : c.args.from < length n.arrivals.held = omega (arith, c.self.invariant.inboxes.each, nodes, c.requires.node) in
    (lit< tt, (elim cap [ inl y ↦ rw y (lit< tt) | inr y ↦ rw y (lit< tt) ], (h.readable.1, (omega (arith, h.readable.0, nodes, c.self.invariant.inboxes.few), (low, h.found)))))

pub returns-in-Some-clause-told : goal.returns-in-Some-clause-told
returns-in-Some-clause-told g c =
    let n = c.self.inside in
    let h : IsHeld c.args.self.now (expected c.in-Some.expect) c.args.from (held_at n.arrivals c.args.from) =
    held_as_seen g.row.N n.nodes n.me (option_map expected n.expect) n.is_open n.arrivals n.good _ c.args.from c.self.invariant c.self.view_is
    c.requires.closed c.requires.some_slot c.requires.node c.requires.other (sym c.has.ensures ∙ c.if-not-has.false) (expected c.in-Some.expect) (ap (option_map expected) c.in-Some.is) in
    ap (λ k. Some (content k c.good_frame.result.body)) (sym h.readable.0) ∙ c.good_frame.ensures.told ∙ h.told
