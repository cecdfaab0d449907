use Rattle.std.proofs.Common.{arith, ◌≡◌, ◌<◌, ◌∷◌, [], ◌++◌, ℕ, List, Bool, length, length-append, get_or, sym, ap, subst, ◌∙◌, append-nil, lit<, inl, inr}
use Rattle.std.specs.Prelude.{slice_index_or}
use Rattle.std.proofs.lemmas.Bool.{cond-true, cond-false}
use Rattle.std.proofs.lemmas.List.{get_or_default}
use Rattle.arrayvec.specs.ArrayVec.{ArrayVec}
use Rattle.node_grid.specs.Capacity.{IsCapacity}
use Rattle.node_grid.specs.NodeSet.{ids_where}
use Rattle.node_grid.specs.MaskLaws.{ids_where-more}
use Rattle.mme_vote.specs.declared.channel.Channel.{Channel}
use Rattle.agreed_state.specs.Config.{IsChannel}
use Rattle.protocol.specs.Configured.{setting_of}
use Rattle.protocol.specs.View.{is_due, no_channel}
use Rattle.grouped_nodes.proofs.due.due_after.Goals as goal
use Rattle.grouped_nodes.proofs.due.due_after.Goals.{then-is_due, else-is_due}

pub push-requires : goal.push-requires
push-requires g c =
    let t = c.loop-c-test.true in
    let n = c.len-c-end.ensures.value in
    let f = c.requires.config.few_channels in
    let few = c.loop-c.invariant.0 in
    let r : length c.loop-c.due.items < 8 = omega arith in
    (lit< tt, r)

pub loop-c-init : goal.loop-c-init
loop-c-init g c = let none = ap length c.new-due.ensures in (omega arith, λ done is. c.new-due.ensures)

pub loop-c-preserved : goal.loop-c-preserved
loop-c-preserved g c =
    let items = c.args.config.now.channels.items in
    let i : ℕ = c.loop-c.c in
    let low : i < length items = (let t = c.loop-c-test.true in let n = c.len-c-end.ensures.value in omega arith) in
    let at : c.index-deref-c.result ≡ get_or items i no_channel = c.index-deref-c.is ∙ ap (λ xs. get_or xs i c.index-deref-c.result) c.deref.ensures.0 ∙ get_or_default items i c.index-deref-c.result no_channel low in
    let few = c.loop-c.invariant.0 in
    elim c.if-is_due.branch [
      | then-is_due w ↦ (
        (let e : length c.if-is_due.due.items ≡ length (c.loop-c.due.items ++ i ∷ []) = ap (λ (d : ArrayVec ℕ). length d.items) w.due-is ∙ ap length w.push.ensures.items in let l = length-append c.loop-c.due.items (i ∷ []) in omega arith),
        λ done is.
            let p : ℕ → Bool = λ k. is_due (setting_of c.args.config.now) c.args.state.now done (slice_index_or items k no_channel) in
            let test : c.is_due.result ≡ p i = c.is_due.ensures done is ∙ ap (is_due (setting_of c.args.config.now) c.args.state.now done) at in
            ap (λ (d : ArrayVec ℕ). d.items) w.due-is ∙ w.push.ensures.items ∙ ap (λ (xs : List ℕ). xs ++ i ∷ []) (c.loop-c.invariant.1 done is)
            ∙ sym (ids_where-more p i ∙ ap (λ (zs : List ℕ). ids_where p i ++ zs) (cond-true (p i) (i ∷ []) [] (sym test ∙ w.if-is_due.true))),
      )
      | else-is_due w ↦ (
        (let e : length c.if-is_due.due.items ≡ length c.loop-c.due.items = ap (λ (d : ArrayVec ℕ). length d.items) w.due-is in omega arith),
        λ done is.
            let p : ℕ → Bool = λ k. is_due (setting_of c.args.config.now) c.args.state.now done (slice_index_or items k no_channel) in
            let test : c.is_due.result ≡ p i = c.is_due.ensures done is ∙ ap (is_due (setting_of c.args.config.now) c.args.state.now done) at in
            ap (λ (d : ArrayVec ℕ). d.items) w.due-is ∙ c.loop-c.invariant.1 done is
            ∙ sym (ids_where-more p i ∙ ap (λ (zs : List ℕ). ids_where p i ++ zs) (cond-false (p i) (i ∷ []) [] (sym test ∙ w.if-is_due.false)) ∙ append-nil (ids_where p i)),
      )
    ]

pub is_due-requires : goal.is_due-requires
is_due-requires g c =
    let cap : IsCapacity g.row.N = g.bound-1.eight_or_sixteen in
    let items = c.args.config.now.channels.items in
    let i : ℕ = c.loop-c.c in
    let d = c.index-deref-c.result in
    let low : i < length items = (let t = c.loop-c-test.true in let n = c.len-c-end.ensures.value in omega arith) in
    let channel = subst (λ (ch : Channel g.row.N). IsChannel c.args.config.now.nodes (length c.args.config.now.graph.tasks) ch)
    (sym (c.index-deref-c.is ∙ ap (λ (xs : List (Channel g.row.N)). get_or xs i d) c.deref.ensures.0)) (c.requires.config.channels i d low) in (
      elim cap [ inl e ↦ rw e (lit< tt) | inr e ↦ rw e (lit< tt) ],
      (
        elim cap [ inl e ↦ rw e (lit< tt) | inr e ↦ rw e (lit< tt) ],
        (elim cap [ inl e ↦ rw e (lit< tt) | inr e ↦ rw e (lit< tt) ], (elim cap [ inl e ↦ rw e (lit< tt) | inr e ↦ rw e (lit< tt) ], channel)),
      ),
    )

pub new-due-requires : goal.new-due-requires
new-due-requires g c = lit< tt

pub offset_bounds-deref-c : goal.offset_bounds-deref-c
offset_bounds-deref-c g c = let t = c.loop-c-test.true in let n = c.len-c-end.ensures.value in let e : length c.deref.result.now ≡ length c.args.config.now.channels.items = ap length c.deref.ensures.0 in omega arith

pub bounds-deref-c : goal.bounds-deref-c
bounds-deref-c g c = let t = c.loop-c-test.true in let n = c.len-c-end.ensures.value in let e : length c.deref.result.now ≡ length c.args.config.now.channels.items = ap length c.deref.ensures.0 in omega arith

pub loop-c-smaller : goal.loop-c-smaller
loop-c-smaller g c = let t = c.loop-c-test.true in omega arith

pub returns : goal.returns
returns g c done is =
    let p : ℕ → Bool = λ k. is_due (setting_of c.args.config.now) c.args.state.now done (slice_index_or c.args.config.now.channels.items k no_channel) in
    let all : c.loop-c.c ≡ length c.args.config.now.channels.items = (let t = c.loop-c-test.false in let n = c.len-c-end.ensures.value in let e = c.loop-c.auto.c-end in omega arith) in
    c.loop-c.invariant.1 done is ∙ ap (λ (n : ℕ). ids_where p n) all

pub overflow_cast-c : goal.overflow_cast-c
overflow_cast-c g c = let t = c.loop-c-test.true in let n = c.len-c-end.ensures.value in let f = c.requires.config.few_channels in omega arith
