use Rattle.std.proofs.Common.{◌≡◌, ℕ, ◌+◌, ◌-◌, ◌≤◌, List, length, drop, take, ◌++◌, arith, ap, sym, ◌∙◌, length-append, length-take, length-drop}
use Rattle.std.specs.List.{between}
use Rattle.std.proofs.lemmas.List.{with_items_is}
use borrow.Rule.Slice.PartMut.{post_of}
use Rattle.input_lines.proofs.Places.{kept_before, read_behind}
use Rattle.input_lines.proofs.buffer.Buffer.read.Goals as goal

-- a read behind a place leaves as many bytes as there were
as_long : (xs buf : List ℕ) (end : ℕ) → end ≤ length xs → length buf ≡ length (take (length xs - end) (drop end xs)) → length (take end xs ++ (buf ++ post_of end (length xs - end) xs)) ≡ length xs
as_long xs buf end fits long =
    omega (arith, length-append (take end xs) (buf ++ post_of end (length xs - end) xs), length-append buf (post_of end (length xs - end) xs), length-take end xs, length-drop (length xs - end) (drop end xs), length-drop end xs, long, length-take (length xs - end) (drop end xs))

pub returns-in_default-clause-bytes : goal.returns-in_default-clause-bytes
returns-in_default-clause-bytes g c =
    let now = c.as_mut_slice.result.now in
    let end = c.args.self.now.end in
    let fits : end ≤ length now = omega (arith, c.requires.buffer.within, ap length c.as_mut_slice.ensures.value) in
    let long = as_long now c.read.new.buf end fits c.read.auto.buf in
    let items = with_items_is c.args.self.now.bytes _ (long ∙ c.as_mut_slice.ensures.len) in
    (c.in_default.ensures.bytes, ap (between c.args.self.now.next end) items ∙ kept_before now _ c.args.self.now.next end fits ∙ ap (between c.args.self.now.next end) c.as_mut_slice.ensures.value)

pub returns-clause-bytes : goal.returns-clause-bytes
returns-clause-bytes g c =
    let now = c.as_mut_slice.result.now in
    let buf = c.read.new.buf in
    let next = c.args.self.now.next in
    let end = c.args.self.now.end in
    let count = c.in-Ok.count in
    let fits : end ≤ length now = omega (arith, c.requires.buffer.within, ap length c.as_mut_slice.ensures.value) in
    let low : next ≤ end = omega (arith, c.requires.buffer.looked, c.requires.buffer.seen) in
    let long = as_long now buf end fits c.read.auto.buf in
    let some = c.requires.room in
    let size = c.read.auto.buf in
    let items = with_items_is c.args.self.now.bytes _ (long ∙ c.as_mut_slice.ensures.len) in (
      take count buf,
      sym c.in-Ok.ensures.bound.1,
      c.in-Ok.ensures.bytes.0,
      ap (between next (end + count)) items ∙ read_behind now buf _ next end count low fits c.in-Ok.ensures.bound.0 ∙ ap (λ ys. between next end ys ++ take count buf) c.as_mut_slice.ensures.value,
      λ none. c.in-Ok.ensures.bytes.1 none (omega (arith, some, size, ap length c.as_mut_slice.ensures.value, length-take (length now - end) (drop end now), length-drop end now)),
    )
