use Rattle.std.proofs.Common.{◌<◌, ℕ, length, sym, ap, ◌∙◌, arith}
use Rattle.frames.specs.Seen.{expected}
use Rattle.error_detect.specs.declared.finding.Finding.{Finding}
use Rattle.error_detect.specs.Watching.{Boxes, one, filled, found_by}
use Rattle.error_detect.proofs.Inboxes.{length-held, part_below, filled_several, filled_long, filled_one}
use Rattle.error_detect.proofs.arrival.Arrivals.take.Goals as goal

pub index-requires : goal.index-requires
index-requires g c =
    let n = c.self.inside in
    omega (arith, c.requires.sender, ap (λ (b : Boxes). length b.held) (sym c.self.view_is) ∙ length-held n.frame_max n.room.items 0 n.inboxes.items, n.inboxes.ok.0)

pub index_mut-requires : goal.index_mut-requires
index_mut-requires g c =
    let n = c.self.inside in
    omega (arith, c.requires.sender, ap (λ (b : Boxes). length b.held) (sym c.self.view_is) ∙ length-held n.frame_max n.room.items 0 n.inboxes.items, n.inboxes.ok.0)

pub index_mut-requires-then-bytes-self : goal.index_mut-requires-then-bytes-self
index_mut-requires-then-bytes-self g c =
    let n = c.self.inside in
    omega (arith, c.requires.sender, ap (λ (b : Boxes). length b.held) (sym c.self.view_is) ∙ length-held n.frame_max n.room.items 0 n.inboxes.items, n.inboxes.ok.0)

pub index_mut-requires-2 : goal.index_mut-requires-2
index_mut-requires-2 g c =
    let n = c.self.inside in
    omega (arith, c.requires.sender, ap (λ (b : Boxes). length b.held) (sym c.self.view_is) ∙ length-held n.frame_max n.room.items 0 n.inboxes.items, n.inboxes.ok.0)

pub overflow_mul-from : goal.overflow_mul-from
overflow_mul-from g c =
    let n = c.self.inside in
    let within : c.args.expect.now.sender < length n.inboxes.items = omega (arith, c.requires.sender, ap (λ (b : Boxes). length b.held) (sym c.self.view_is) ∙ length-held n.frame_max n.room.items 0 n.inboxes.items) in
    omega (arith, part_below n.frame_max c.args.expect.now.sender (length n.inboxes.items) within, c.self.invariant.0, n.room.small)

pub put_at-requires : goal.put_at-requires
put_at-requires g c =
    let n = c.self.inside in
    let within : c.args.expect.now.sender < length n.inboxes.items = omega (arith, c.requires.sender, ap (λ (b : Boxes). length b.held) (sym c.self.view_is) ∙ length-held n.frame_max n.room.items 0 n.inboxes.items) in
    omega (arith, part_below n.frame_max c.args.expect.now.sender (length n.inboxes.items) within, c.self.invariant.0, c.if-bytes-self.false)

pub returns-then-not-is_empty : goal.returns-then-not-is_empty
returns-then-not-is_empty g c =
    let n = c.self.inside in
    let from : ℕ = c.args.expect.now.sender in
    let found : Finding = found_by (expected c.args.expect.now) (one c.args.tick c.args.bytes.now) in
    let within : from < length n.inboxes.items = omega (arith, c.requires.sender, ap (λ (b : Boxes). length b.held) (sym c.self.view_is) ∙ length-held n.frame_max n.room.items 0 n.inboxes.items) in
    filled_several n.frame_max n.room.items n.inboxes.items from c.index.result.now within c.index.ensures c.args.tick c.args.bytes.now found (sym c.is_empty.ensures ∙ c.if-not-is_empty.true)
    ∙ ap (λ b. filled b from c.args.tick c.args.bytes.now found) c.self.view_is

pub returns-then-bytes-self : goal.returns-then-bytes-self
returns-then-bytes-self g c =
    let n = c.self.inside in
    let from : ℕ = c.args.expect.now.sender in
    let found : Finding = found_by (expected c.args.expect.now) (one c.args.tick c.args.bytes.now) in
    let within : from < length n.inboxes.items = omega (arith, c.requires.sender, ap (λ (b : Boxes). length b.held) (sym c.self.view_is) ∙ length-held n.frame_max n.room.items 0 n.inboxes.items) in
    filled_long n.frame_max n.room.items n.inboxes.items from c.index.result.now within c.index.ensures c.args.tick c.args.bytes.now found (sym c.is_empty.ensures ∙ c.if-not-is_empty.false) c.if-bytes-self.true
    ∙ ap (λ b. filled b from c.args.tick c.args.bytes.now found) c.self.view_is

pub returns : goal.returns
returns g c =
    let n = c.self.inside in
    let from : ℕ = c.args.expect.now.sender in
    let within : from < length n.inboxes.items = omega (arith, c.requires.sender, ap (λ (b : Boxes). length b.held) (sym c.self.view_is) ∙ length-held n.frame_max n.room.items 0 n.inboxes.items) in
    filled_one n.frame_max n.room.items n.inboxes.items from c.index.result.now within c.index.ensures c.args.tick c.args.bytes.now c.put_at.new.out.items c.found_in.result (sym c.is_empty.ensures ∙ c.if-not-is_empty.false) c.if-bytes-self.false
    c.self.invariant.1 c.put_at.ensures.put
    ∙ ap (λ b. filled b from c.args.tick c.args.bytes.now c.found_in.result) c.self.view_is
    ∙ ap (filled c.args.self.now from c.args.tick c.args.bytes.now) c.found_in.ensures
