use Rattle.std.proofs.Common.{arith, ◌≡◌, ◌<◌, ◌∷◌, [], ◌++◌, ℕ, List, Bool, length, get_or, sym, ap, ◌∙◌, append-nil, lit<}
use Rattle.std.specs.Prelude.{slice_index_or}
use Rattle.std.proofs.lemmas.Bool.{cond-true, cond-false}
use Rattle.node_grid.specs.NodeSet.{ids_where}
use Rattle.node_grid.specs.NodeSetLaws.{length-ids, IsIdSet-filter}
use Rattle.node_grid.specs.MaskLaws.{ids_where-more}
use Rattle.protocol.specs.View.{no_channel}
use Rattle.arrayvec.specs.ArrayVec.{ArrayVec}
use Rattle.data_slot.specs.Due.{due_by}
use Rattle.std.proofs.lemmas.List.{get_or_default}
use Rattle.data_slot.proofs.due.due_channels.Goals as goal
use Rattle.data_slot.proofs.due.due_channels.Goals.{then-is_due, else-is_due}

pub push-requires : goal.push-requires
push-requires g c =
    let p : ℕ → Bool = λ c'. due_by (slice_index_or c.args.config.now.channels.items c' no_channel) c.args.finished in
    let l = length-ids c.loop-c.c (ids_where p c.loop-c.c) (IsIdSet-filter p c.loop-c.c) in
    let e : length c.loop-c.due.items ≡ length (ids_where p c.loop-c.c) = ap length c.loop-c.invariant in
    let t = c.loop-c-test.true in
    let n = c.len-c-end.ensures.value in
    let f = c.requires.config.few_channels in
    let r : length c.loop-c.due.items < 8 = omega arith in
    (lit< tt, r)

pub loop-c-preserved : goal.loop-c-preserved
loop-c-preserved g c =
    let items = c.args.config.now.channels.items in
    let i : ℕ = c.loop-c.c in
    let p : ℕ → Bool = λ c'. due_by (slice_index_or items c' no_channel) c.args.finished in
    let low : i < length items = (let t = c.loop-c-test.true in let n = c.len-c-end.ensures.value in omega arith) in
    let at : c.index-deref-c.result ≡ get_or items i no_channel = c.index-deref-c.is ∙ ap (λ xs. get_or xs i c.index-deref-c.result) c.deref.ensures.0 ∙ get_or_default items i c.index-deref-c.result no_channel low in
    let test : c.is_due.result ≡ p i = c.is_due.ensures ∙ ap (λ ch. due_by ch c.args.finished) at in
    elim c.if-is_due.branch [
      | then-is_due w ↦
          ap (λ (d : ArrayVec ℕ). d.items) w.due-is ∙ w.push.ensures.items ∙ ap (λ (xs : List ℕ). xs ++ i ∷ []) c.loop-c.invariant
          ∙ sym (ids_where-more p i ∙ ap (λ (zs : List ℕ). ids_where p i ++ zs) (cond-true (p i) (i ∷ []) [] (sym test ∙ w.if-is_due.true)))
      | else-is_due w ↦
          ap (λ (d : ArrayVec ℕ). d.items) w.due-is ∙ c.loop-c.invariant
          ∙ sym (ids_where-more p i ∙ ap (λ (zs : List ℕ). ids_where p i ++ zs) (cond-false (p i) (i ∷ []) [] (sym test ∙ w.if-is_due.false)) ∙ append-nil (ids_where p i))
    ]

pub new-due-requires : goal.new-due-requires
new-due-requires g c = lit< tt

pub offset_bounds-deref-c : goal.offset_bounds-deref-c
offset_bounds-deref-c g c = let t = c.loop-c-test.true in let n = c.len-c-end.ensures.value in let e : length c.deref.result.now ≡ length c.args.config.now.channels.items = ap length c.deref.ensures.0 in omega arith

pub bounds-deref-c : goal.bounds-deref-c
bounds-deref-c g c = let t = c.loop-c-test.true in let n = c.len-c-end.ensures.value in let e : length c.deref.result.now ≡ length c.args.config.now.channels.items = ap length c.deref.ensures.0 in omega arith

pub loop-c-smaller : goal.loop-c-smaller
loop-c-smaller g c = let t = c.loop-c-test.true in omega arith

pub returns : goal.returns
returns g c =
    let p : ℕ → Bool = λ c'. due_by (slice_index_or c.args.config.now.channels.items c' no_channel) c.args.finished in
    let all : c.loop-c.c ≡ length c.args.config.now.channels.items = (let t = c.loop-c-test.false in let n = c.len-c-end.ensures.value in let e = c.loop-c.auto.c-end in omega arith) in
    c.loop-c.invariant ∙ ap (λ (n : ℕ). ids_where p n) all

pub overflow_cast-c : goal.overflow_cast-c
overflow_cast-c g c = let t = c.loop-c-test.true in let n = c.len-c-end.ensures.value in let f = c.requires.config.few_channels in omega arith
