use Rattle.std.proofs.Common.{◌≡◌, ◌<◌, ◌≤◌, ◌+◌, ◌-◌, ◌*◌, ℕ, List, length, take, drop, sym, ap, ◌∙◌, arith}
use Rattle.error_detect.specs.Watching.{Boxes, held_at}
use Rattle.error_detect.specs.Inside.{bytes_in}
use Rattle.error_detect.proofs.Inboxes.{length-held, held_here, fits_here, part_below, bytes_are, bytes_fit}
use Rattle.error_detect.proofs.arrival.Arrivals.bytes_of.Goals as goal

pub index-requires : goal.index-requires
index-requires c =
    let n = c.self.inside in
    omega (arith, c.requires, ap (λ (b : Boxes). length b.held) (sym c.self.view_is) ∙ length-held n.frame_max n.room.items 0 n.inboxes.items, n.inboxes.ok.0)

pub returns-then-len-eq0 : goal.returns-then-len-eq0
returns-then-len-eq0 c =
    let n = c.self.inside in
    let j : ℕ = c.args.node in
    let at : ℕ = j * n.frame_max in
    let within : j < length n.inboxes.items = omega (arith, c.requires, ap (λ (b : Boxes). length b.held) (sym c.self.view_is) ∙ length-held n.frame_max n.room.items 0 n.inboxes.items) in
    sym (ap (λ (b : Boxes). bytes_in (held_at b j)) (sym c.self.view_is)
    ∙ ap bytes_in (held_here n.frame_max n.room.items j n.inboxes.items c.index.result.now within c.index.ensures)
    ∙ bytes_are n.room.items at c.index.result.now
    ∙ ap (λ k. take k (drop at n.room.items)) (sym c.kept_len-len.ensures ∙ c.if-len-eq0.true))

pub overflow_mul-at : goal.overflow_mul-at
overflow_mul-at c =
    let n = c.self.inside in
    let within : c.args.node < length n.inboxes.items = omega (arith, c.requires, ap (λ (b : Boxes). length b.held) (sym c.self.view_is) ∙ length-held n.frame_max n.room.items 0 n.inboxes.items) in
    omega (arith, part_below n.frame_max c.args.node (length n.inboxes.items) within, c.self.invariant.0, n.room.small)

pub overflow_add-result : goal.overflow_add-result
overflow_add-result c =
    let n = c.self.inside in
    let j : ℕ = c.args.node in
    let within : j < length n.inboxes.items = omega (arith, c.requires, ap (λ (b : Boxes). length b.held) (sym c.self.view_is) ∙ length-held n.frame_max n.room.items 0 n.inboxes.items) in
    let fits = bytes_fit n.frame_max (length n.room.items) (j * n.frame_max) c.index.result.now (fits_here n.frame_max (length n.room.items) j n.inboxes.items c.index.result.now c.self.invariant.1 within c.index.ensures)
    (omega (arith, c.kept_len-len.ensures, c.if-len-eq0.false)) in
    omega (arith, fits, c.kept_len-len.ensures, n.room.ok.0, n.room.ok.1, n.room.small)

pub slice_bounds-result-end-2 : goal.slice_bounds-result-end-2
slice_bounds-result-end-2 c =
    let n = c.self.inside in
    let j : ℕ = c.args.node in
    let within : j < length n.inboxes.items = omega (arith, c.requires, ap (λ (b : Boxes). length b.held) (sym c.self.view_is) ∙ length-held n.frame_max n.room.items 0 n.inboxes.items) in
    let fits = bytes_fit n.frame_max (length n.room.items) (j * n.frame_max) c.index.result.now (fits_here n.frame_max (length n.room.items) j n.inboxes.items c.index.result.now c.self.invariant.1 within c.index.ensures)
    (omega (arith, c.kept_len-len.ensures, c.if-len-eq0.false)) in
    let end : j * n.frame_max + c.kept_len-len.result ≤ length c.as_slice.result.now = omega (arith, fits, c.kept_len-len.ensures, ap length c.as_slice.ensures.value) in
    end

pub returns : goal.returns
returns c =
    let n = c.self.inside in
    let j : ℕ = c.args.node in
    let at : ℕ = j * n.frame_max in
    let len : ℕ = c.kept_len-len.result in
    let within : j < length n.inboxes.items = omega (arith, c.requires, ap (λ (b : Boxes). length b.held) (sym c.self.view_is) ∙ length-held n.frame_max n.room.items 0 n.inboxes.items) in
    let long : at + len - at ≡ len = omega arith in
    ap (λ k. take k (drop at c.as_slice.result.now)) long
    ∙ ap (λ (xs : List ℕ). take len (drop at xs)) c.as_slice.ensures.value
    ∙ ap (λ k. take k (drop at n.room.items)) c.kept_len-len.ensures
    ∙ sym (ap (λ (b : Boxes). bytes_in (held_at b j)) (sym c.self.view_is)
    ∙ ap bytes_in (held_here n.frame_max n.room.items j n.inboxes.items c.index.result.now within c.index.ensures)
    ∙ bytes_are n.room.items at c.index.result.now)
