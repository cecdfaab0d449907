use Rattle.std.proofs.Common.{◌≡◌, ◌≤◌, ◌+◌, length, sym, ap, ◌∙◌, arith, subst}
use Rattle.std.proofs.lemmas.List.{with_items_is}
use Rattle.frames.specs.Writing.{pasted}
use Rattle.frames.specs.PieceLaws.{length-pasted}
use Rattle.error_detect.specs.Putting.{IsPut}
use Rattle.error_detect.proofs.Puts.{put_so}
use Rattle.error_detect.proofs.room.put_at.Goals as goal

pub returns-clause-put : goal.returns-clause-put
returns-clause-put c =
    let mid = c.lengthen.new.bytes in
    let new = c.write_at.new.out in
    let at = c.args.at in
    let bytes = c.args.bytes.now in
    let fits : at + length bytes ≤ length c.as_mut_slice.result.now = omega (arith, c.lengthen.ensures.long, ap length c.as_mut_slice.ensures.value) in
    let long : length new ≡ mid.len = ap length c.write_at.ensures ∙ length-pasted at bytes c.as_mut_slice.result.now fits ∙ c.as_mut_slice.ensures.len in
    let is : new ≡ pasted at bytes mid.items = c.write_at.ensures ∙ ap (pasted at bytes) c.as_mut_slice.ensures.value in
    subst (IsPut at bytes c.args.out.now.items) (sym (with_items_is mid new long)) (put_so at bytes c.args.out.now.items mid.items new c.lengthen.ensures.long c.lengthen.ensures.longer c.lengthen.ensures.front is)
