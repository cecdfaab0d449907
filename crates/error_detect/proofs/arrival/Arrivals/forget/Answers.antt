use Rattle.std.proofs.Common.{◌≡◌, ◌≤◌, ◌*◌, ℕ, List, length, map, replicate, sym, ap, ◌∙◌, subst}
use Rattle.std.specs.Prelude.{vec_capacity}
use Rattle.std.specs.Vec.{with_items}
use Rattle.std.proofs.lemmas.List.{with_items_is, length-map}
use Rattle.error_detect.specs.declared.arrival.Inbox.{Inbox}
use Rattle.error_detect.specs.Inside.{forgotten, held_from, AllFit}
use Rattle.error_detect.specs.Watching.{Held, held_none, Boxes, emptied}
use Rattle.error_detect.proofs.Inboxes.{length-held, held_forgotten, fit_forgotten}
use Rattle.error_detect.proofs.arrival.Arrivals.forget.Goals as goal

pub invariant_of-self : goal.invariant_of-self
invariant_of-self c =
    let n = c.self.inside in
    let items : List Inbox = n.inboxes.items in
    let long : length c.forget_all.new.inboxes ≡ n.inboxes.len = ap length c.forget_all.ensures ∙ length-map c.as_mut_slice.result.now forgotten ∙ c.as_mut_slice.ensures.len in
    let whole : (with_items n.inboxes c.forget_all.new.inboxes).items ≡ map forgotten items =
    with_items_is n.inboxes c.forget_all.new.inboxes long ∙ c.forget_all.ensures ∙ ap (map forgotten) c.as_mut_slice.ensures.value in
    let P : List Inbox → Type 0 = λ is. (length is * n.frame_max ≤ vec_capacity n.room) × AllFit n.frame_max (length n.room.items) is in
    let is : P (map forgotten items) =
    (subst (λ (k : ℕ). k * n.frame_max ≤ vec_capacity n.room) (sym (length-map items forgotten)) c.self.invariant.0, fit_forgotten n.frame_max (length n.room.items) items) in
    subst P (sym whole) is

pub returns : goal.returns
returns c =
    let n = c.self.inside in
    let items : List Inbox = n.inboxes.items in
    let long : length c.forget_all.new.inboxes ≡ n.inboxes.len = ap length c.forget_all.ensures ∙ length-map c.as_mut_slice.result.now forgotten ∙ c.as_mut_slice.ensures.len in
    let whole : (with_items n.inboxes c.forget_all.new.inboxes).items ≡ map forgotten items =
    with_items_is n.inboxes c.forget_all.new.inboxes long ∙ c.forget_all.ensures ∙ ap (map forgotten) c.as_mut_slice.ensures.value in
    let seen : List Held → Boxes = λ hs. record { frame_max = n.frame_max; held = hs } in
    ap (λ is. seen (held_from n.frame_max n.room.items 0 is)) whole
    ∙ ap seen (held_forgotten n.frame_max n.room.items 0 items ∙ ap (λ k. replicate k held_none) (sym (length-held n.frame_max n.room.items 0 items)))
    ∙ ap emptied c.self.view_is
