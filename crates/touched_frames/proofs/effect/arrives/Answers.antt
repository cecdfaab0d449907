use Rattle.std.proofs.Common.{ℕ, List, take, sym, ap, ◌∙◌}
use Rattle.std.specs.Prelude.{is_none}
use Rattle.frames.specs.Seen.{content, expected}
use Rattle.fault_classes.specs.Change.{change_of}
use Rattle.touched_frames.proofs.Effects.{by_bytes, not_raw, spelt}
use Rattle.touched_frames.proofs.effect.arrives.Goals as goal

pub returns-in-Some : goal.returns-in-Some
returns-in-Some g c = λ sender sent. sym (c.in-Some.ensures.found sender (expected c.args.receiver.now) (content c.args.receiver.now.nodes c.args.frame.now.body) sent.in_range)

pub returns : goal.returns
returns g c = λ sender sent.
    let nodes : ℕ = c.args.receiver.now.nodes in
    let said = content nodes c.args.frame.now.body in
    let frame : List ℕ = take c.encode-len.result c.encode-len.new.out in
    c.read-2.ensures
    ∙ by_bytes (change_of c.args.effect.now) sender (expected c.args.receiver.now) said c.replace.new.frame frame (sym c.unread_kind.ensures.unread ∙ ap is_none c.in_default.is)
    (spelt sender nodes c.encode-len.result c.args.frame.now.head said c.args.room.now c.encode-len.new.out sent c.requires.room c.encode-len.ensures.written c.encode-len.ensures.length) c.replace.ensures
    (not_raw c.args.effect.now c.in_default-effect.not-Raw)
